-- What it says of a tank's content that it has met a level, or has not: the content has come to the goal, or has not
-- passed it.
use Rattle.std.proofs.Common.{◌≡◌, ℕ, ◌*◌, ◌^◌, ◌<◌, ℤ, pos, ◌+ℤ◌, ◌*ℤ◌, ◌≤ℤ◌, ◌<ℤ◌, refl, sym, ap, subst, ◌∙◌, arith}
use Rattle.std.proofs.Common.{Bool, true, false, ◌||◌, ◌&&◌, List, [], ◌∷◌, ◌⊎◌, inl, inr}
use Rattle.std.specs.Prelude.{⊤, int_le, map, if◌then◌else◌, Option, Some, None, unsigned_abs}
use Rattle.std.specs.Option.{option_map_or}
use Rattle.std.proofs.Math.IntN.{*ℤ_comm}
use Rattle.std.proofs.lemmas.Int.{ints, by_lt_z}
use Rattle.std.proofs.lemmas.Bool.{cases_Bool, cond_both}
use Rattle.hyd_num.proofs.Integers.{times_plus, times_rises, times_reflects, times_one, one_times}
use Rattle.hyd_num.specs.Rational.{Rational, floor, ceiling, is_at_most}
use Rattle.hyd_net.specs.Curves.{Knot, AreRising, IsVolumeCurve, value_at, volume_at, volume_knots}
use Rattle.hyd_net.specs.Sound.{IsSound}
use Rattle.hyd_spec.specs.ProgramTypes.{Project, Tank, VolumePoint}
use Rattle.hyd_spec.specs.Lists.{Each}
use Rattle.hyd_spec.specs.Tank.{Walls, Cylinder, Curve, Stock, level_bounds, content_bounds, exact_content, is_bound}
use Rattle.hyd_spec.specs.Tank.{content_of, walls_of, shape_points, level_on_curve, level_at_volume, carried_level}
use Rattle.hyd_spec.specs.Tank.{reaches, has_reached}
use Rattle.hyd_spec.specs.WholeNumbers.{is_same_number}
use Rattle.hyd_spec_certificates.specs.Interval.{Interval, exactly}
use Rattle.hyd_spec_certificates.specs.Stocks.{least_stock, greatest_stock}
use Rattle.hyd_spec_open_ends.specs.StocksOverLengths.{goal_volume, goal_stocks, least_content, greatest_content}
use Rattle.hyd_spec_open_ends.specs.Arrivals.{IsNoFarther}
use Rattle.hyd_lemmas.proofs.Integers.{exchanged, floor_low, floor_greatest, ceiling_high, floor_at_most_ceiling}
use Rattle.hyd_lemmas.proofs.BooleanTests.{le-yes, le-no, le-not, and-false}
use Rattle.hyd_theorems_on_definitions.specs.LyingInIntervals.{in_parts}
use Rattle.hyd_theorems_on_definitions.specs.SoundTanks.{IsVessel}
use Rattle.hyd_theorems_on_definitions.proofs.ValuesAtTwoScales.{Leads, above-too}
use Rattle.hyd_theorems_on_definitions.proofs.ValuesByContent.{above-yes, above-no, above-from, below-yes, below-no}
use Rattle.hyd_theorems_on_definitions.proofs.ValuesByContent.{below-from, placed-is, placed-most, placed-least}
use Rattle.hyd_theorems_on_definitions.proofs.RisingLines.{AreClimbing, from-rises, some-den, value-den}
use Rattle.hyd_theorems_on_definitions.proofs.StocksInIntervals.{pairs-tail, carried-some, curve-some, level-fits-at}
use Rattle.hyd_theorems_on_definitions.proofs.SoundTankLemmas.{IsSoundTank, sound_tank, shape_of, vessels}
use Rattle.hyd_theorems_on_definitions.proofs.TargetsOfVolumeCurves.{falling_target, at_maximum, risen_to}

-- ---- what is asked of a tank

-- Walls by which a level stands for a content: any cylinder's, and those of a volume curve.
abbrev pub HasLevels : Walls → Type 0
HasLevels (Cylinder area) = ⊤
HasLevels (Curve points) = IsVolumeCurve points

-- A tank's bounds are apart, and so are its contents there.
pub record IsMeasured (walls : Walls) (tank : Tank) : Type 0 where
  pub vessel : IsVessel walls tank
  pub levels : HasLevels walls
  pub apart : tank.minimum <ℤ tank.maximum
  pub contents_apart : (content_bounds walls tank).least <ℤ (content_bounds walls tank).most

-- ---- contents against a goal

-- A content is at or below the least of a tank, so that its lower end is the bound; or at or above the most.
pub record IsLow (walls : Walls) (tank : Tank) (y : Rational) : Type 0 where
  pub apart : (content_bounds walls tank).least <ℤ (content_bounds walls tank).most
  pub low : y.num ≤ℤ (pos y.den *ℤ (content_bounds walls tank).least)

pub record IsHigh (walls : Walls) (tank : Tank) (y : Rational) : Type 0 where
  pub apart : (content_bounds walls tank).least <ℤ (content_bounds walls tank).most
  pub high : (pos y.den *ℤ (content_bounds walls tank).most) ≤ℤ y.num

-- a content as a whole number over its breadth, and some seconds of no inflow
has-come-up : (S B : ℕ) (v z x : ℤ) → z ≡ pos 0 → (pos B *ℤ (pos S *ℤ v)) ≤ℤ x
    → Leads 1 S (record { num = (pos B *ℤ v) +ℤ z; den = B }) (record { num = x; den = B })
has-come-up S B v z x none le = record {
  crossed =
      let e : pos S *ℤ ((pos B *ℤ v) +ℤ z) ≡ pos S *ℤ (pos B *ℤ v) =
      ap (λ y. pos S *ℤ y) (omega (arith, ints, none)) in
      times_rises B (pos S *ℤ ((pos B *ℤ v) +ℤ z)) (pos 1 *ℤ x)
      (omega (arith, ints, e, le, exchanged B S v, one_times x));
}

is-short-of : (S B : ℕ) (v z x : ℤ) → z ≡ pos 0 → x ≤ℤ (pos B *ℤ (pos S *ℤ v))
    → Leads S 1 (record { num = x; den = B }) (record { num = (pos B *ℤ v) +ℤ z; den = B })
is-short-of S B v z x none le = record {
  crossed =
      let e : pos S *ℤ ((pos B *ℤ v) +ℤ z) ≡ pos S *ℤ (pos B *ℤ v) =
      ap (λ y. pos S *ℤ y) (omega (arith, ints, none)) in
      times_rises B (pos 1 *ℤ x) (pos S *ℤ ((pos B *ℤ v) +ℤ z))
      (omega (arith, ints, e, le, exchanged B S v, one_times x));
}

nothing : (n : ℕ) → pos n *ℤ pos 0 ≡ pos 0
nothing n = omega (arith, ints)

-- ---- along a volume curve

climbing : (p : VolumePoint) (points : List VolumePoint) → AreRising (map (λ (q : VolumePoint). q.level) (p ∷ points))
    → AreRising (map (λ (q : VolumePoint). q.volume) (p ∷ points))
    → AreClimbing (record { place = p.level; value = p.volume }) (volume_knots points)
climbing p [] levels volumes = tt
climbing p (q ∷ points) levels volumes = (
  record {
    later = let l = levels 0 1 (pos 0) (omega arith) (omega arith) in omega (arith, ints, l);
    higher = let l = volumes 0 1 (pos 0) (omega arith) (omega arith) in omega (arith, ints, l);
  },
  climbing q points (pairs-tail (λ a b. a <ℤ b) p.level (map (λ (q : VolumePoint). q.level) (q ∷ points)) levels)
      (pairs-tail (λ a b. a <ℤ b) p.volume (map (λ (q : VolumePoint). q.volume) (q ∷ points)) volumes),
)

-- the volume of a curve doesn't fall with the level
volume-rises : (points : List VolumePoint) (x y : ℤ) → IsVolumeCurve points → x ≤ℤ y
    → volume_at points x ≤ℤ volume_at points y
volume-rises [] x y curve le = omega (arith, ints)
volume-rises (p ∷ points) x y curve le =
    let knot : Knot = record { place = p.level; value = p.volume } in
    let r = value_at 1 (volume_knots (p ∷ points)) x in
    let s = value_at 1 (volume_knots (p ∷ points)) y in
    let up = from-rises 1 1 knot (volume_knots points) x y (omega arith)
    (climbing p points curve.levels_rise curve.volumes_rise) (omega (arith, ints, le, one_times x, one_times y)) in
    let r-some = some-den 1 knot (volume_knots points) x in
    let s-some = some-den 1 knot (volume_knots points) y in
    floor_greatest s (floor r) s-some (above-too (floor r) r s r-some up (floor_low r r-some))

same-not : (a b : ℤ) → (a <ℤ b) ⊎ (b <ℤ a) → is_same_number a b ≡ false
same-not a b (inl h) = ap (λ (c : Bool). int_le a b && c) (le-not b a h) ∙ and-false (int_le a b)
same-not a b (inr h) = ap (λ (c : Bool). c && int_le b a) (le-not a b h)

same-both : (a b : ℤ) → is_same_number a b ≡ true → a ≡ b
same-both a b e =
    let first = le-yes a b (left (int_le a b) (int_le b a) e) in
    let second = le-yes b a (right (int_le a b) (int_le b a) e) in omega (arith, ints, first, second)
  where
    left : (x y : Bool) → (x && y) ≡ true → x ≡ true
    left true y f = refl
    left false y f = f

    right : (x y : Bool) → (x && y) ≡ true → y ≡ true
    right true y f = f
    right false y f = absurd (cc)

never : (b : Bool) → b ≡ true → b ≡ false → ⊥
never true e f = absurd (cc)
never false e f = absurd (cc)

module _ (S : ℕ) (some : 0 < S) (points : List VolumePoint) (tank : Tank) (is : IsMeasured (Curve points) tank)
    (stock : Stock) (q : ℤ) (seconds : ℕ) where
  abbrev exact : Rational
  exact = exact_content (Curve points) stock q seconds

  abbrev carried : Rational
  carried = carried_level S (Curve points) tank stock q seconds

  abbrev line-level : Rational
  line-level = level_on_curve S points exact

  abbrev least : ℤ
  least = volume_at points tank.minimum

  abbrev most : ℤ
  most = volume_at points tank.maximum

  ordered : tank.minimum ≤ℤ tank.maximum
  ordered = let a = is.apart in omega (arith, ints, a)

  carried-den : 0 < carried.den
  carried-den = carried-some S (Curve points) tank stock q seconds is.vessel

  -- the carried level lies between the tank's bounds
  carried-most : carried.num ≤ℤ (pos carried.den *ℤ (pos S *ℤ tank.maximum))
  carried-most = placed-most S (content_bounds (Curve points) tank) (level_bounds tank) exact
      (level_at_volume S points tank exact) ordered (level-fits-at S (Curve points) tank exact is.vessel (omega arith))

  carried-least : (pos carried.den *ℤ (pos S *ℤ tank.minimum)) ≤ℤ carried.num
  carried-least = placed-least S (content_bounds (Curve points) tank) (level_bounds tank) exact
      (level_at_volume S points tank exact) ordered (level-fits-at S (Curve points) tank exact is.vessel (omega arith))

  -- of two levels, one at most and one at least the carried level
  between : (m n : ℤ) → (pos carried.den *ℤ (pos S *ℤ m)) ≤ℤ carried.num
      → carried.num ≤ℤ (pos carried.den *ℤ (pos S *ℤ n)) → m ≤ℤ n
  between m n low high = times_reflects S m n some
      (times_reflects carried.den (pos S *ℤ m) (pos S *ℤ n) carried-den (omega (arith, ints, low, high)))

  -- the volume at a level, cut to whole ticks, and what a value at least it is
  module _ (t : ℤ) where
    abbrev value : Rational
    value = value_at 1 (volume_knots points) t

    -- the goal, by whether the level is the bound there
    abbrev goal-with : Bool → Interval
    goal-with b = if b then exactly (volume_at points t) else record { lo = floor value; hi = ceiling value }

    value-some : 0 < value.den
    value-some = value-den 1 (volume_knots points) t

    down : (pos 864 *ℤ (pos S *ℤ value.num)) ≤ℤ (pos value.den *ℤ exact.num)
        → (pos 864 *ℤ (pos S *ℤ volume_at points t)) ≤ℤ exact.num
    down le =
        let f = floor_low value value-some in
        let a = times_rises 864 (pos S *ℤ (pos value.den *ℤ floor value)) (pos S *ℤ value.num)
        (times_rises S (pos value.den *ℤ floor value) value.num f) in
        let e : pos 864 *ℤ (pos S *ℤ (pos value.den *ℤ floor value)) ≡ pos value.den
        *ℤ (pos 864 *ℤ (pos S *ℤ floor value)) =
        ap (λ (z : ℤ). pos 864 *ℤ z) (exchanged value.den S (floor value)) ∙ exchanged value.den 864
        (pos S *ℤ floor value) in
        times_reflects value.den (pos 864 *ℤ (pos S *ℤ floor value)) exact.num value-some
        (omega (arith, ints, a, le, e))

    up : (pos value.den *ℤ exact.num) ≤ℤ (pos 864 *ℤ (pos S *ℤ value.num))
        → exact.num ≤ℤ (pos 864 *ℤ (pos S *ℤ ceiling value))
    up le =
        let f = ceiling_high value value-some in
        let a = times_rises 864 (pos S *ℤ value.num) (pos S *ℤ (pos value.den *ℤ ceiling value))
        (times_rises S value.num (pos value.den *ℤ ceiling value) f) in
        let e : pos 864 *ℤ (pos S *ℤ (pos value.den *ℤ ceiling value)) ≡ pos value.den
        *ℤ (pos 864 *ℤ (pos S *ℤ ceiling value)) =
        ap (λ (z : ℤ). pos 864 *ℤ z) (exchanged value.den S (ceiling value)) ∙ exchanged value.den 864
        (pos S *ℤ ceiling value) in
        times_reflects value.den exact.num (pos 864 *ℤ (pos S *ℤ ceiling value)) value-some
        (omega (arith, ints, a, le, e))

    cut-low : volume_at points t ≤ℤ ceiling value
    cut-low = times_reflects value.den (floor value) (ceiling value) value-some
        (let l = floor_low value value-some in let h = ceiling_high value value-some in omega (arith, ints, l, h))

    -- the tests of the content against the value
    turned : ((pos S *ℤ value.num) *ℤ pos 864) ≡ (pos 864 *ℤ (pos S *ℤ value.num))
    turned = *ℤ_comm (pos S *ℤ value.num) (pos 864)

    turned-exact : (exact.num *ℤ pos value.den) ≡ (pos value.den *ℤ exact.num)
    turned-exact = *ℤ_comm exact.num (pos value.den)

    over-value : is_at_most (in_parts S value) exact ≡ true
        → (pos 864 *ℤ (pos S *ℤ volume_at points t)) ≤ℤ exact.num
    over-value e = down (let a = le-yes ((pos S *ℤ value.num) *ℤ pos 864) (exact.num *ℤ pos value.den) e in
        omega (arith, ints, a, turned, turned-exact))

    short-of-value : is_at_most (in_parts S value) exact ≡ false
        → exact.num ≤ℤ (pos 864 *ℤ (pos S *ℤ ceiling value))
    short-of-value e = up (let a = le-no ((pos S *ℤ value.num) *ℤ pos 864) (exact.num *ℤ pos value.den) e in
        omega (arith, ints, a, turned, turned-exact))

    under-value : is_at_most exact (in_parts S value) ≡ true
        → exact.num ≤ℤ (pos 864 *ℤ (pos S *ℤ ceiling value))
    under-value e = up (let a = le-yes (exact.num *ℤ pos value.den) ((pos S *ℤ value.num) *ℤ pos 864) e in
        omega (arith, ints, a, turned, turned-exact))

    beyond-value : is_at_most exact (in_parts S value) ≡ false
        → (pos 864 *ℤ (pos S *ℤ volume_at points t)) ≤ℤ exact.num
    beyond-value e = down (let a = le-no (exact.num *ℤ pos value.den) ((pos S *ℤ value.num) *ℤ pos 864) e in
        omega (arith, ints, a, turned, turned-exact))

    -- ---- from below

    -- from below a target has been reached where the carried level has
    by-carried : has_reached S (Curve points) tank stock q true t seconds ≡ reaches S true t carried
    by-carried = by_lt_z t tank.maximum
        (λ lt. ap (λ (c : Bool). if c then reaches S true (volume_at points t) exact else reaches S true t carried)
        (same-not tank.maximum t (inr lt)))
        (λ ge. by_lt_z tank.maximum t
        (λ lt. ap (λ (c : Bool). if c then reaches S true (volume_at points t) exact else reaches S true t carried)
        (same-not tank.maximum t (inl lt)))
        (λ le. let e : tank.maximum ≡ t = omega (arith, ints, le, ge) in
        subst (λ (z : ℤ). has_reached S (Curve points) tank stock q true z seconds ≡ reaches S true z carried) e
        (at_maximum S points tank stock q seconds some is.levels is.apart)))

    reached-within : has_reached S (Curve points) tank stock q true t seconds ≡ true → t ≤ℤ tank.maximum
    reached-within e = between t tank.maximum (above-yes S t carried (sym by-carried ∙ e)) carried-most

    risen : has_reached S (Curve points) tank stock q true t seconds ≡ true
        → (volume_at points t ≤ℤ least) ⊎ ((pos 864 *ℤ (pos S *ℤ volume_at points t)) ≤ℤ exact.num)
    risen e = by_lt_z tank.minimum t
        (λ lt. inr (either (reaches S true most exact) (is_at_most (in_parts S value) exact)
        ((pos 864 *ℤ (pos S *ℤ volume_at points t)) ≤ℤ exact.num)
        (sym (risen_to S points tank stock q t seconds some is.levels lt (reached-within e)) ∙ sym by-carried ∙ e)
        (λ f. let a = above-yes S most exact f in
        let b = times_rises 864 (pos S *ℤ volume_at points t) (pos S *ℤ most)
        (times_rises S (volume_at points t) most (volume-rises points t tank.maximum is.levels (reached-within e))) in
        omega (arith, ints, a, b))
        over-value))
        (λ ge. inl (volume-rises points t tank.minimum is.levels ge))
      where
        either : (a b : Bool) (P : Type 0) → (a || b) ≡ true → (a ≡ true → P) → (b ≡ true → P) → P
        either true b P f l r = l refl
        either false b P f l r = r f

    not-risen : t ≤ℤ tank.maximum → has_reached S (Curve points) tank stock q true t seconds ≡ false
        → exact.num ≤ℤ (pos 864 *ℤ (pos S *ℤ (goal_volume points tank true t).hi))
    not-risen within e = elim (cases_Bool (is_bound tank true t)) [
      | inl bound ↦
          let f : reaches S true (volume_at points t) exact ≡ false =
          ap (λ (c : Bool). if c then reaches S true (volume_at points t) exact else reaches S true t carried)
          (sym bound) ∙ e in
          let a = above-no S (volume_at points t) exact f in
          subst (λ (c : Bool). exact.num ≤ℤ (pos 864 *ℤ (pos S *ℤ (goal-with c).hi)))
          (sym bound) (omega (arith, ints, a))
      | inr not ↦
          subst (λ (c : Bool). exact.num ≤ℤ (pos 864 *ℤ (pos S *ℤ (goal-with c).hi)))
          (sym not)
          (by_lt_z tank.minimum t
          (λ lt. short-of-value (second (reaches S true most exact) (is_at_most (in_parts S value) exact)
          (sym (risen_to S points tank stock q t seconds some is.levels lt within) ∙ sym by-carried ∙ e)))
          (λ ge. absurd (let a = above-no S t carried (sym by-carried ∙ e) in
          let b = times_rises carried.den (pos S *ℤ t) (pos S *ℤ tank.minimum) (times_rises S t tank.minimum ge) in
          let c = carried-least in
          omega (arith, ints, a, b, c))))
    ]
      where
        second : (a b : Bool) → (a || b) ≡ false → b ≡ false
        second true b f = absurd (cc)
        second false b f = f

    -- ---- from above

    -- from above a target has been reached by the volume of the minimum, or by the carried level
    fall-cases : (P : Type 0) → has_reached S (Curve points) tank stock q false t seconds ≡ true
        → (is_bound tank false t ≡ true → exact.num ≤ℤ (pos 864 *ℤ (pos S *ℤ volume_at points t)) → P)
        → (is_bound tank false t ≡ false → carried.num ≤ℤ (pos carried.den *ℤ (pos S *ℤ t)) → P) → P
    fall-cases P e at by = elim (cases_Bool (is_bound tank false t)) [
      | inl bound ↦
          at bound (below-yes S (volume_at points t) exact
          (ap (λ (c : Bool). if c then reaches S false (volume_at points t) exact else reaches S false t carried)
          (sym bound) ∙ e))
      | inr not ↦
          by not (below-yes S t carried
          (ap (λ (c : Bool). if c then reaches S false (volume_at points t) exact else reaches S false t carried)
          (sym not) ∙ e))
    ]

    goal-above : volume_at points t ≤ℤ (goal_volume points tank false t).hi
    goal-above = elim (cases_Bool (is_bound tank false t)) [
      | inl bound ↦ subst (λ (c : Bool). volume_at points t ≤ℤ (goal-with c).hi)
          (sym bound) (omega (arith, ints))
      | inr not ↦ subst (λ (c : Bool). volume_at points t ≤ℤ (goal-with c).hi)
          (sym not) cut-low
    ]

    fallen-within : has_reached S (Curve points) tank stock q false t seconds ≡ true → tank.minimum ≤ℤ t
    fallen-within e = fall-cases (tank.minimum ≤ℤ t) e
        (λ bound le. let same = same-both tank.minimum t bound in omega (arith, ints, same))
        (λ not le. between tank.minimum t carried-least le)

    -- the carried level is at most a level below the maximum: the volume is at most the one there
    carried-down : t <ℤ tank.maximum → tank.minimum ≤ℤ t → carried.num ≤ℤ (pos carried.den *ℤ (pos S *ℤ t))
        → exact.num ≤ℤ (pos 864 *ℤ (pos S *ℤ ceiling value))
    carried-down below from =
        placed-is (λ (r : Rational). r.num ≤ℤ (pos r.den *ℤ (pos S *ℤ t))
        → exact.num ≤ℤ (pos 864 *ℤ (pos S *ℤ ceiling value))) S (content_bounds (Curve points) tank)
        (level_bounds tank) exact (level_at_volume S points tank exact)
        (λ h g. absurd (over-maximum g))
        (λ h l g. at-least l)
        (λ h l. placed-is (λ (r : Rational). r.num ≤ℤ (pos r.den *ℤ (pos S *ℤ t))
        → exact.num ≤ℤ (pos 864 *ℤ (pos S *ℤ ceiling value))) S (level_bounds tank) (level_bounds tank) line-level
        line-level
        (λ m g. absurd (over-maximum g))
        (λ m k g. on-line (let a = times_rises line-level.den (pos S *ℤ tank.minimum) (pos S *ℤ t)
        (times_rises S tank.minimum t from) in omega (arith, ints, k, a)))
        (λ m k g. on-line g))
      where
        over-maximum : (pos S *ℤ tank.maximum) ≤ℤ (pos 1 *ℤ (pos S *ℤ t)) → ⊥
        over-maximum g =
            let a = times_rises S (t +ℤ pos 1) tank.maximum (omega (arith, ints, below)) in
            omega (arith, ints, g, a, some, times_plus S t (pos 1), times_one S, one_times (pos S *ℤ t))

        at-least : exact.num ≤ℤ (pos 864 *ℤ (pos S *ℤ least)) → exact.num ≤ℤ (pos 864 *ℤ (pos S *ℤ ceiling value))
        at-least l =
            let v = volume-rises points tank.minimum t is.levels from in
            let c = cut-low in
            let a = times_rises 864 (pos S *ℤ least) (pos S *ℤ ceiling value)
            (times_rises S least (ceiling value) (omega (arith, ints, v, c))) in
            omega (arith, ints, l, a)

        on-line : line-level.num ≤ℤ (pos line-level.den *ℤ (pos S *ℤ t))
            → exact.num ≤ℤ (pos 864 *ℤ (pos S *ℤ ceiling value))
        on-line le = under-value (sym (falling_target S points exact t some (omega arith) is.levels)
            ∙ below-from S t line-level le)

    fallen : has_reached S (Curve points) tank stock q false t seconds ≡ true
        → (most ≤ℤ (goal_volume points tank false t).hi)
        ⊎ (exact.num ≤ℤ (pos 864 *ℤ (pos S *ℤ (goal_volume points tank false t).hi)))
    fallen e = by_lt_z t tank.maximum
        (λ lt. inr (fall-cases (exact.num ≤ℤ (pos 864 *ℤ (pos S *ℤ (goal_volume points tank false t).hi))) e
        (λ bound le. subst (λ (c : Bool). exact.num ≤ℤ (pos 864
        *ℤ (pos S *ℤ (goal-with c).hi))) (sym bound) le)
        (λ not le. subst (λ (c : Bool). exact.num ≤ℤ (pos 864
        *ℤ (pos S *ℤ (goal-with c).hi))) (sym not)
        (carried-down lt (fallen-within e) le))))
        (λ ge. inl (let a = volume-rises points tank.maximum t is.levels ge in let b = goal-above in
        omega (arith, ints, a, b)))

    not-fallen : tank.minimum ≤ℤ t → has_reached S (Curve points) tank stock q false t seconds ≡ false
        → (pos 864 *ℤ (pos S *ℤ volume_at points t)) ≤ℤ exact.num
    not-fallen from e = elim (cases_Bool (is_bound tank false t)) [
      | inl bound ↦
          let f : reaches S false (volume_at points t) exact ≡ false =
          ap (λ (c : Bool). if c then reaches S false (volume_at points t) exact else reaches S false t carried)
          (sym bound) ∙ e in
          let a = below-no S (volume_at points t) exact f in omega (arith, ints, a)
      | inr not ↦
          carried-up (below-no S t carried
          (ap (λ (c : Bool). if c then reaches S false (volume_at points t) exact else reaches S false t carried)
          (sym not) ∙ e))
    ]
      where
        Goal : Type 0
        Goal = (pos 864 *ℤ (pos S *ℤ volume_at points t)) ≤ℤ exact.num

        on-line : (pos line-level.den *ℤ (pos S *ℤ t)) <ℤ line-level.num → Goal
        on-line lt = elim (cases_Bool (is_at_most exact (in_parts S value))) [
          | inl held ↦ absurd (
              let a = below-yes S t line-level
              (falling_target S points exact t some (omega arith) is.levels ∙ held) in
              omega (arith, ints, a, lt))
          | inr fails ↦ beyond-value fails
        ]

        -- a level above the target
        over : (u : ℤ) → (pos 1 *ℤ (pos S *ℤ t)) <ℤ (pos S *ℤ u) → t <ℤ u
        over u lt = by_lt_z t u (λ h. h) (λ ge. absurd (let a = times_rises S u t ge in
            omega (arith, ints, a, lt, one_times (pos S *ℤ t))))

        carried-up : (pos carried.den *ℤ (pos S *ℤ t)) <ℤ carried.num → Goal
        carried-up = placed-is (λ (r : Rational). (pos r.den *ℤ (pos S *ℤ t)) <ℤ r.num → Goal) S
            (content_bounds (Curve points) tank) (level_bounds tank) exact (level_at_volume S points tank exact)
            (λ h g. let m = over tank.maximum g in
            let v = volume-rises points t tank.maximum is.levels (omega (arith, ints, m)) in
            let a = times_rises 864 (pos S *ℤ volume_at points t) (pos S *ℤ most)
            (times_rises S (volume_at points t) most v) in omega (arith, ints, a, h))
            (λ h l g. absurd (let m = over tank.minimum g in omega (arith, ints, m, from)))
            (λ h l. placed-is (λ (r : Rational). (pos r.den *ℤ (pos S *ℤ t)) <ℤ r.num → Goal) S (level_bounds tank)
            (level_bounds tank) line-level line-level
            (λ m g. let u = over tank.maximum g in
            on-line (let a = times_rises line-level.den (pos S *ℤ (t +ℤ pos 1)) (pos S *ℤ tank.maximum)
            (times_rises S (t +ℤ pos 1) tank.maximum (omega (arith, ints, u))) in
            let b : pos line-level.den *ℤ (pos S *ℤ (t +ℤ pos 1)) ≡ (pos line-level.den *ℤ (pos S *ℤ t))
            +ℤ (pos line-level.den *ℤ pos S) =
            ap (λ (z : ℤ). pos line-level.den *ℤ z) (times_plus S t (pos 1)
            ∙ ap (λ (z : ℤ). (pos S *ℤ t) +ℤ z) (times_one S))
            ∙ times_plus line-level.den (pos S *ℤ t) (pos S) in
            let c = times_rises line-level.den (pos 1) (pos S) (omega (arith, ints, some)) in
            let d = line-some in
            omega (arith, ints, a, b, c, d, m, times_one line-level.den)))
            (λ m k g. absurd (let u = over tank.minimum g in omega (arith, ints, u, from)))
            (λ m k g. on-line g))
          where
            line-some : 0 < line-level.den
            line-some = curve-some S points exact is.vessel.holds_water (omega arith)

    -- ---- a nearer level

    nearer-up : (near : ℤ) → near ≤ℤ t → has_reached S (Curve points) tank stock q true t seconds ≡ true
        → reaches S true near carried ≡ true
    nearer-up near le e =
        let a = above-yes S t carried (sym by-carried ∙ e) in
        let b = times_rises carried.den (pos S *ℤ near) (pos S *ℤ t) (times_rises S near t le) in
        above-from S near carried (omega (arith, ints, a, b))

    -- the carried level of a volume up to that of the minimum is the minimum
    least-carried : exact.num ≤ℤ (pos 864 *ℤ (pos S *ℤ least))
        → carried.num ≤ℤ (pos carried.den *ℤ (pos S *ℤ tank.minimum))
    least-carried le = placed-is (λ (r : Rational). r.num ≤ℤ (pos r.den *ℤ (pos S *ℤ tank.minimum))) S
        (content_bounds (Curve points) tank) (level_bounds tank) exact (level_at_volume S points tank exact)
        (λ h. absurd (let apart = is.contents_apart in
        let a = times_rises 864 (pos S *ℤ (least +ℤ pos 1)) (pos S *ℤ most)
        (times_rises S (least +ℤ pos 1) most (omega (arith, ints, apart))) in
        omega (arith, ints, h, le, a, some, times_plus S least (pos 1), times_one S)))
        (λ h l. omega (arith, ints, one_times (pos S *ℤ tank.minimum)))
        (λ h l. absurd (omega (arith, ints, l, le)))

    nearer-down : (near : ℤ) → t ≤ℤ near → has_reached S (Curve points) tank stock q false t seconds ≡ true
        → has_reached S (Curve points) tank stock q false near seconds ≡ true
    nearer-down near le e = elim (cases_Bool (is_bound tank false near)) [
      | inl bound ↦
          let same = same-both tank.minimum near bound in
          let from = fallen-within e in
          let at : t ≡ near = omega (arith, ints, same, le, from) in
          subst (λ (z : ℤ). has_reached S (Curve points) tank stock q false z seconds ≡ true) at e
      | inr not ↦
          ap (λ (c : Bool). if c then reaches S false (volume_at points near) exact else reaches S false near carried)
          not
          ∙ below-from S near carried
          (fall-cases (carried.num ≤ℤ (pos carried.den *ℤ (pos S *ℤ near))) e
          (λ bound low.
          let same = same-both tank.minimum t bound in
          let m = least-carried (subst (λ (z : ℤ). exact.num ≤ℤ (pos 864 *ℤ (pos S *ℤ volume_at points z))) (sym same)
          low) in
          let a = times_rises carried.den (pos S *ℤ tank.minimum) (pos S *ℤ near)
          (times_rises S tank.minimum near (omega (arith, ints, same, le))) in
          omega (arith, ints, m, a))
          (λ other low.
          let a = times_rises carried.den (pos S *ℤ t) (pos S *ℤ near) (times_rises S t near le) in
          omega (arith, ints, low, a)))
    ]

-- the goal's volume, from below, is that at the level, cut to whole ticks
goal-low : (points : List VolumePoint) (tank : Tank) (above : Bool) (t : ℤ)
    → (goal_volume points tank above t).lo ≡ volume_at points t
goal-low points tank above t = elim (cases_Bool (is_bound tank above t)) [
  | inl bound ↦ ap (λ (c : Bool). (if c then exactly (volume_at points t)
      else whole-around (value_at 1 (volume_knots points) t)).lo) bound
  | inr not ↦ ap (λ (c : Bool). (if c then exactly (volume_at points t)
      else whole-around (value_at 1 (volume_knots points) t)).lo) not
]
  where
    whole-around : Rational → Interval
    whole-around x = record { lo = floor x; hi = ceiling x }

-- its ends are in order
goal-volume-ordered : (points : List VolumePoint) (tank : Tank) (above : Bool) (t : ℤ)
    → (goal_volume points tank above t).lo ≤ℤ (goal_volume points tank above t).hi
goal-volume-ordered points tank above t =
    let value = value_at 1 (volume_knots points) t in
    cond_both (is_bound tank above t) (exactly (volume_at points t))
    (record { lo = floor value; hi = ceiling value }) (λ (x : Interval). x.lo ≤ℤ x.hi)
    (λ e. omega (arith, ints)) (λ e. floor_at_most_ceiling value (value-den 1 (volume_knots points) t))

-- ---- whatever the walls

-- the least content of a goal is at most the greatest
pub goal_ordered : (walls : Walls) (tank : Tank) (rising : Bool) (t : ℤ)
    → (pos 1 *ℤ content_of walls (least_stock (goal_stocks walls tank rising t)))
    ≤ℤ (pos 1 *ℤ content_of walls (greatest_stock (goal_stocks walls tank rising t)))
goal_ordered (Cylinder area) tank rising t = omega (arith, ints)
goal_ordered (Curve points) tank rising t =
    let a = goal-volume-ordered points tank rising t in omega (arith, ints, a)

-- A level that a tank may meet from below or from above: any of a cylinder's, which may lie beyond its bounds; with a
-- volume curve none above the maximum, and none below the minimum.
abbrev pub IsWithinReach : Walls → Tank → Bool → ℤ → Type 0
IsWithinReach (Cylinder area) tank rising t = ⊤
IsWithinReach (Curve points) tank true t = t ≤ℤ tank.maximum
IsWithinReach (Curve points) tank false t = tank.minimum ≤ℤ t

module _ (S : ℕ) (some : 0 < S) (tank : Tank) (stock : Stock) (q : ℤ) (seconds : ℕ) where
  -- a level that has been reached, and one that is met no later
  pub nearer : (walls : Walls) → IsMeasured walls tank → (rising : Bool) (near far : ℤ) → IsNoFarther rising near far
      → has_reached S walls tank stock q rising far seconds ≡ true
      → has_reached S walls tank stock q rising near seconds ≡ true
  nearer (Cylinder area) is true near far le e =
      let x = exact_content (Cylinder area) stock q seconds in
      let a = above-yes S far x e in
      let b = times_rises x.den (pos S *ℤ near) (pos S *ℤ far) (times_rises S near far le) in
      above-from S near x (omega (arith, ints, a, b))
  nearer (Cylinder area) is false near far le e =
      let x = exact_content (Cylinder area) stock q seconds in
      let a = below-yes S far x e in
      let b = times_rises x.den (pos S *ℤ far) (pos S *ℤ near) (times_rises S far near le) in
      below-from S near x (omega (arith, ints, a, b))
  nearer (Curve points) is true near far le e =
      by-carried S some points tank is stock q seconds near
      ∙ nearer-up S some points tank is stock q seconds far near le e
  nearer (Curve points) is false near far le e = nearer-down S some points tank is stock q seconds far near le e

  pub within_reach : (walls : Walls) → IsMeasured walls tank → (rising : Bool) (t : ℤ)
      → has_reached S walls tank stock q rising t seconds ≡ true → IsWithinReach walls tank rising t
  within_reach (Cylinder area) is rising t e = tt
  within_reach (Curve points) is true t e = reached-within S some points tank is stock q seconds t e
  within_reach (Curve points) is false t e = fallen-within S some points tank is stock q seconds t e

  -- A level that has been reached from below: the content has come to the goal, or the goal is no more than the least.
  pub come_up : (walls : Walls) → IsMeasured walls tank → (t : ℤ)
      → has_reached S walls tank stock q true t seconds ≡ true
      → Leads 1 S (least_content walls (goal_stocks walls tank true t)) (exact_content walls stock q seconds)
      ⊎ IsLow walls tank (least_content walls (goal_stocks walls tank true t))
  come_up (Cylinder area) is t e =
      inl (has-come-up S (86400 * area) t (pos (0 * 10 ^ 15) *ℤ pos 0)
      (exact_content (Cylinder area) stock q seconds).num
      (nothing (0 * 10 ^ 15)) (above-yes S t (exact_content (Cylinder area) stock q seconds) e))
  come_up (Curve points) is t e = elim (risen S some points tank is stock q seconds t e) [
    | inl low ↦ inr (record {
      apart = is.contents_apart;
      low = let a = times_rises 864 (goal_volume points tank true t).lo (volume_at points tank.minimum)
          (let f = goal-low points tank true t in omega (arith, ints, low, f)) in omega (arith, ints, a);
    })
    | inr le ↦ inl (has-come-up S 864 (goal_volume points tank true t).lo (pos 0 *ℤ pos 0)
        (exact_content (Curve points) stock q seconds).num (nothing 0)
        (subst (λ (z : ℤ). (pos 864 *ℤ (pos S *ℤ z)) ≤ℤ (exact_content (Curve points) stock q seconds).num)
        (sym (goal-low points tank true t)) le))
  ]

  -- one that has not been reached from below: the content is not beyond the goal
  pub not_up : (walls : Walls) → IsMeasured walls tank → (t : ℤ) → IsWithinReach walls tank true t
      → has_reached S walls tank stock q true t seconds ≡ false
      → Leads S 1 (exact_content walls stock q seconds) (greatest_content walls (goal_stocks walls tank true t))
  not_up (Cylinder area) is t within e =
      is-short-of S (86400 * area) t (pos (0 * 10 ^ 15) *ℤ pos 0) (exact_content (Cylinder area) stock q seconds).num
      (nothing (0 * 10 ^ 15))
      (let a = above-no S t (exact_content (Cylinder area) stock q seconds) e in omega (arith, ints, a))
  not_up (Curve points) is t within e =
      is-short-of S 864 (goal_volume points tank true t).hi (pos 0 *ℤ pos 0)
      (exact_content (Curve points) stock q seconds).num (nothing 0)
      (not-risen S some points tank is stock q seconds t within e)

  -- the same from above
  pub come_down : (walls : Walls) → IsMeasured walls tank → (t : ℤ)
      → has_reached S walls tank stock q false t seconds ≡ true
      → Leads S 1 (exact_content walls stock q seconds) (greatest_content walls (goal_stocks walls tank false t))
      ⊎ IsHigh walls tank (greatest_content walls (goal_stocks walls tank false t))
  come_down (Cylinder area) is t e =
      inl (is-short-of S (86400 * area) t (pos (0 * 10 ^ 15) *ℤ pos 0)
      (exact_content (Cylinder area) stock q seconds).num (nothing (0 * 10 ^ 15))
      (below-yes S t (exact_content (Cylinder area) stock q seconds) e))
  come_down (Curve points) is t e = elim (fallen S some points tank is stock q seconds t e) [
    | inl high ↦ inr (record {
      apart = is.contents_apart;
      high = let a = times_rises 864 (volume_at points tank.maximum) (goal_volume points tank false t).hi high in
          omega (arith, ints, a);
    })
    | inr le ↦ inl (is-short-of S 864 (goal_volume points tank false t).hi (pos 0 *ℤ pos 0)
        (exact_content (Curve points) stock q seconds).num (nothing 0) le)
  ]

  pub not_down : (walls : Walls) → IsMeasured walls tank → (t : ℤ) → IsWithinReach walls tank false t
      → has_reached S walls tank stock q false t seconds ≡ false
      → Leads 1 S (least_content walls (goal_stocks walls tank false t)) (exact_content walls stock q seconds)
  not_down (Cylinder area) is t within e =
      has-come-up S (86400 * area) t (pos (0 * 10 ^ 15) *ℤ pos 0) (exact_content (Cylinder area) stock q seconds).num
      (nothing (0 * 10 ^ 15))
      (let a = below-no S t (exact_content (Cylinder area) stock q seconds) e in omega (arith, ints, a))
  not_down (Curve points) is t within e =
      has-come-up S 864 (goal_volume points tank false t).lo (pos 0 *ℤ pos 0)
      (exact_content (Curve points) stock q seconds).num (nothing 0)
      (subst (λ (z : ℤ). (pos 864 *ℤ (pos S *ℤ z)) ≤ℤ (exact_content (Curve points) stock q seconds).num)
      (sym (goal-low points tank false t)) (not-fallen S some points tank is stock q seconds t within e))

-- ---- in a sound network

-- its tanks are measured so
pub measured : (project : Project) → IsSound project
    → Each project.tanks.list (λ k tank. IsMeasured (walls_of project tank) tank)
measured project sound k tank at = by-shape tank.shape refl
  where
    of : IsSoundTank project tank
    of = sound_tank project sound k tank at

    by-shape : (o : Option ℕ) → tank.shape ≡ o → IsMeasured (walls_of project tank) tank
    by-shape None is =
        let cylinder : walls_of project tank ≡ Cylinder (unsigned_abs tank.area) =
        ap (λ (o : Option ℕ). option_map_or (λ shape. Curve (shape_points project shape)) o
        (Cylinder (unsigned_abs tank.area))) is in
        subst (λ w. IsMeasured w tank) (sym cylinder)
        (let apart = of.ranges.apart in record {
          vessel = subst (λ w. IsVessel w tank) cylinder (vessels project sound k tank at);
          levels = tt;
          apart = omega (arith, ints, apart);
          contents_apart = omega (arith, ints, apart);
        })
    by-shape (Some n) is =
        let curve : walls_of project tank ≡ Curve (shape_points project n) =
        ap (λ (o : Option ℕ). option_map_or (λ shape. Curve (shape_points project shape)) o
        (Cylinder (unsigned_abs tank.area))) is in
        subst (λ w. IsMeasured w tank) (sym curve)
        (let shape = shape_of project tank n is of in
        let apart = of.ranges.apart in
        let volumes = shape.apart in record {
          vessel = subst (λ w. IsVessel w tank) curve (vessels project sound k tank at);
          levels = shape.curve;
          apart = omega (arith, ints, apart);
          contents_apart = omega (arith, ints, volumes);
        })
