-- Target levels of a tank with a volume curve, as volumes in shares of a part of a tick.
use Rattle.std.proofs.Common.{◌≡◌, ℕ, ◌*◌, ◌<◌, ◌↔◌, ◌⊎◌, ℤ, pos, ◌+ℤ◌, ◌-ℤ◌, ◌*ℤ◌, ◌≤ℤ◌, ◌<ℤ◌, Bool, true, false}
use Rattle.std.proofs.Common.{◌||◌, ◌&&◌, List, inl, inr, refl, sym, ap, subst, ◌∙◌, arith, IsTrue, mul-pos}
use Rattle.std.specs.Prelude.{int_le, if◌then◌else◌}
use Rattle.std.specs.Int.{int_min}
use Rattle.std.proofs.Math.IntN.{*ℤ_comm}
use Rattle.std.proofs.lemmas.Int.{ints, clamps, by_lt_z}
use Rattle.hyd_num.proofs.Integers.{times_plus, times_rises, times_times, times_one, one_times}
use Rattle.hyd_num.specs.Rational.{Rational, floor, ceiling, is_at_most}
use Rattle.hyd_net.specs.Curves.{value_at, volume_at, volume_knots}
use Rattle.hyd_spec.specs.ProgramTypes.{Tank, VolumePoint}
use Rattle.hyd_spec.specs.Tank.{Stock, Curve, level_bounds, content_bounds, exact_content, level_on_curve}
use Rattle.hyd_spec.specs.Tank.{level_at_volume, carried_level, reaches, has_reached}
use Rattle.hyd_spec.specs.WholeNumbers.{is_same_number}
use Rattle.hyd_lemmas.proofs.BooleanTests.{or-left, or-right, le-from, le-yes, and-false, le-not}
use Rattle.hyd_lemmas.proofs.Integers.{exchanged, floor_low, floor_greatest, ceiling_high, ceiling_least}
use Rattle.hyd_theorems_on_definitions.specs.LyingInIntervals.{in_parts}
use Rattle.hyd_theorems_on_definitions.specs.SoundTanks.{IsVessel}
use Rattle.hyd_theorems_on_definitions.proofs.RisingLines.{value-den}
use Rattle.hyd_theorems_on_definitions.proofs.StocksInIntervals.{level-fits-at, carried-some, curve-some}
use Rattle.hyd_theorems_on_definitions.proofs.ValuesByContent.{above-yes, above-from, below-yes, below-from, placed-is}
use Rattle.hyd_theorems_on_definitions.proofs.ValuesByContent.{placed-most, placed-least}
use Rattle.hyd_theorems_on_definitions.proofs.TargetsOfVolumeCurves.{falling_target, at_maximum, risen_to}
use Rattle.hyd_tank.specs.StockIntervals.{IsBasin}

both-true : (b : Bool) → b ≡ true → (b && b) ≡ true
both-true true e = refl
both-true false e = e

or-both : (a b : Bool) (P : Type 0) → (a || b) ≡ true → (a ≡ true → P) → (b ≡ true → P) → P
or-both true b P e l r = l refl
or-both false b P e l r = r e

pub vessel_of : (tank : Tank) (points : List VolumePoint) → IsBasin tank points → IsVessel (Curve points) tank
vessel_of tank points basin =
    let apart = basin.levels.apart in
    let volumes = basin.shape.apart in
    record {
      holds_water = (basin.shape.curve.levels_rise, basin.shape.curve.volumes_rise);
      ordered = omega (arith, ints, apart);
      contents_ordered = omega (arith, ints, volumes);
    }

-- the volume at a level, so many times
abbrev pub times_volume : ℕ → List VolumePoint → ℤ → Rational
times_volume times points t = record {
  num = pos times *ℤ (value_at 1 (volume_knots points) t).num;
  den = (value_at 1 (volume_knots points) t).den;
}

-- ---- what a carried level says of the exact volume

module _ (S : ℕ) (some : 0 < S) (tank : Tank) (points : List VolumePoint) (basin : IsBasin tank points) (stock : Stock)
    (q : ℤ) (seconds : ℕ) where
  -- the exact volume, in shares
  abbrev parts : ℤ
  parts = (pos 864 *ℤ stock.volume) +ℤ (pos seconds *ℤ q)

  abbrev exact : Rational
  exact = exact_content (Curve points) stock q seconds

  abbrev carried : Rational
  carried = carried_level S (Curve points) tank stock q seconds

  vessel : IsVessel (Curve points) tank
  vessel = vessel_of tank points basin

  -- the carried level lies between the tank's bounds
  carried-most : carried.num ≤ℤ (pos carried.den *ℤ (pos S *ℤ tank.maximum))
  carried-most =
      let apart = basin.levels.apart in
      placed-most S (content_bounds (Curve points) tank) (level_bounds tank) exact
      (level_at_volume S points tank exact) (omega (arith, ints, apart))
      (level-fits-at S (Curve points) tank exact vessel (omega arith))

  carried-least : (pos carried.den *ℤ (pos S *ℤ tank.minimum)) ≤ℤ carried.num
  carried-least =
      let apart = basin.levels.apart in
      placed-least S (content_bounds (Curve points) tank) (level_bounds tank) exact
      (level_at_volume S points tank exact) (omega (arith, ints, apart))
      (level-fits-at S (Curve points) tank exact vessel (omega arith))

  carried-den : 0 < carried.den
  carried-den = carried-some S (Curve points) tank stock q seconds vessel

  -- the level on the lines of the curve
  abbrev line-level : Rational
  line-level = level_on_curve S points exact

  line-den : 0 < line-level.den
  line-den = curve-some S points exact vessel.holds_water (omega arith)

  -- whole ticks that are apart are apart in parts, also so many times
  wide : (den : ℕ) (a b : ℤ) → 0 < den → a <ℤ b → (pos den *ℤ (pos S *ℤ a)) <ℤ (pos den *ℤ (pos S *ℤ b))
  wide den a b den-some less =
      let l = times_rises (den * S) (a +ℤ pos 1) b (omega (arith, ints, less)) in
      let m : 0 < den * S = mul-pos den-some some in
      omega (
        arith,
        ints,
        l,
        m,
        times_plus (den * S) a (pos 1),
        times_one (den * S),
        times_times den S a,
        times_times den S b,
      )

  wide-too : (den : ℕ) (a b : ℤ) → a ≤ℤ b → (pos den *ℤ (pos S *ℤ a)) ≤ℤ (pos den *ℤ (pos S *ℤ b))
  wide-too den a b le = times_rises den (pos S *ℤ a) (pos S *ℤ b) (times_rises S a b le)

  module _ (t : ℤ) where
    abbrev value : Rational
    value = value_at 1 (volume_knots points) t

    value-some : 0 < value.den
    value-some = value-den 1 (volume_knots points) t

    turn : (parts *ℤ pos value.den) ≡ (pos value.den *ℤ parts)
    turn = *ℤ_comm parts (pos value.den)

    turn-back : ((pos S *ℤ value.num) *ℤ pos 864) ≡ (pos (864 * S) *ℤ value.num)
    turn-back = *ℤ_comm (pos S *ℤ value.num) (pos 864) ∙ times_times 864 S value.num

    -- at most a level exactly where the volume is at most that at it
    under : parts ≤ℤ floor (times_volume (864 * S) points t) → line-level.num ≤ℤ (pos line-level.den *ℤ (pos S *ℤ t))
    under h =
        let f = floor_low (times_volume (864 * S) points t) value-some in
        let l = times_rises value.den parts (floor (times_volume (864 * S) points t)) h in
        let e = falling_target S points exact t some (omega arith) basin.shape.curve in
        let s = le-from (parts *ℤ pos value.den) ((pos S *ℤ value.num) *ℤ pos 864)
        (omega (arith, ints, f, l, turn, turn-back)) in
        below-yes S t line-level (e ∙ s)

    under-back : line-level.num ≤ℤ (pos line-level.den *ℤ (pos S *ℤ t))
        → parts ≤ℤ floor (times_volume (864 * S) points t)
    under-back h =
        let e = falling_target S points exact t some (omega arith) basin.shape.curve in
        let b = below-from S t line-level h in
        let s = le-yes (parts *ℤ pos value.den) ((pos S *ℤ value.num) *ℤ pos 864) (sym e ∙ b) in
        floor_greatest (times_volume (864 * S) points t) parts value-some (omega (arith, ints, s, turn, turn-back))

  -- no more volume than at the minimum: the level is at most the minimum
  least-level : parts ≤ℤ (pos 864 *ℤ (pos S *ℤ volume_at points tank.minimum))
      → line-level.num ≤ℤ (pos line-level.den *ℤ (pos S *ℤ tank.minimum))
  least-level h =
      let v = value_at 1 (volume_knots points) tank.minimum in
      let v-some = value-den 1 (volume_knots points) tank.minimum in
      let l = times_rises (864 * S) (pos v.den *ℤ floor v) v.num (floor_low v v-some) in
      let g = floor_greatest (times_volume (864 * S) points tank.minimum) (pos (864 * S) *ℤ floor v) v-some
      (omega (arith, ints, l, exchanged v.den (864 * S) (floor v))) in
      under tank.minimum (omega (arith, ints, h, g, times_times 864 S (volume_at points tank.minimum)))

  -- ---- whether a target is the bound there

  same-not : (a b : ℤ) → (a <ℤ b) ⊎ (b <ℤ a) → is_same_number a b ≡ false
  same-not a b (inl h) = ap (λ (c : Bool). int_le a b && c) (le-not b a h) ∙ and-false (int_le a b)
  same-not a b (inr h) = ap (λ (c : Bool). c && int_le b a) (le-not a b h)

  rises-by-level : (t : ℤ) → (tank.maximum <ℤ t) ⊎ (t <ℤ tank.maximum)
      → has_reached S (Curve points) tank stock q true t seconds ≡ reaches S true t carried
  rises-by-level t h = ap (λ (c : Bool). if c then reaches S true (volume_at points t) exact else reaches S true t
      carried) (same-not tank.maximum t h)

  falls-by-level : (t : ℤ) → (tank.minimum <ℤ t) ⊎ (t <ℤ tank.minimum)
      → has_reached S (Curve points) tank stock q false t seconds ≡ reaches S false t carried
  falls-by-level t h = ap (λ (c : Bool). if c then reaches S false (volume_at points t) exact else reaches S false t
      carried) (same-not tank.minimum t h)

  -- ---- risen

  risen-always : (t : ℤ) → t ≤ℤ tank.minimum → has_reached S (Curve points) tank stock q true t seconds ≡ true
  risen-always t low =
      let apart = basin.levels.apart in
      rises-by-level t (inr (omega (arith, ints, apart, low)))
      ∙ above-from S t carried (let a = wide-too carried.den t tank.minimum low in let b = carried-least in
      omega (arith, ints, a, b))

  risen-never : (t : ℤ) → tank.maximum <ℤ t → has_reached S (Curve points) tank stock q true t seconds ≡ true → ⊥
  risen-never t high e =
      let a = above-yes S t carried (sym (rises-by-level t (inl high)) ∙ e) in
      let l = wide carried.den tank.maximum t carried-den high in
      let m = carried-most in
      omega (arith, ints, a, l, m)

  risen-is : (t : ℤ) → tank.minimum <ℤ t → t ≤ℤ tank.maximum
      → has_reached S (Curve points) tank stock q true t seconds
      ≡ (reaches S true (volume_at points tank.maximum) exact
      || is_at_most (in_parts S (value_at 1 (volume_knots points) t)) exact)
  risen-is t over within = by_lt_z t tank.maximum
      (λ lt. rises-by-level t (inr lt) ∙ risen_to S points tank stock q t seconds some basin.shape.curve over within)
      (λ ge. let e : tank.maximum ≡ t = omega (arith, ints, within, ge) in
      subst (λ (z : ℤ). has_reached S (Curve points) tank stock q true z seconds
      ≡ (reaches S true (volume_at points tank.maximum) exact
      || is_at_most (in_parts S (value_at 1 (volume_knots points) z)) exact)) e
      (at_maximum S points tank stock q seconds some basin.shape.curve basin.levels.apart
      ∙ risen_to S points tank stock q tank.maximum seconds some basin.shape.curve basin.levels.apart
      (omega (arith, ints))))

  pub risen_met : (t z : ℤ) → tank.minimum <ℤ t → t ≤ℤ tank.maximum
      → z ≡ int_min (ceiling (times_volume (864 * S) points t)) (pos 864 *ℤ (pos S *ℤ volume_at points tank.maximum))
      → IsTrue (has_reached S (Curve points) tank stock q true t seconds) ↔ (z ≤ℤ parts)
  risen_met t z over within e =
      let v = value_at 1 (volume_knots points) t in
      let vs = value-some t in
      let C = ceiling (times_volume (864 * S) points t) in
      let top = ceiling_high (times_volume (864 * S) points t) vs in (
        (λ r. or-both (reaches S true (volume_at points tank.maximum) exact) (is_at_most (in_parts S v) exact)
            (z ≤ℤ parts) (sym (risen-is t over within) ∙ r)
            (λ f. let a = above-yes S (volume_at points tank.maximum) exact f in
            omega (arith, ints, clamps, e, a))
            (λ f. let a = le-yes ((pos S *ℤ v.num) *ℤ pos 864) (parts *ℤ pos v.den) f in
            let c = ceiling_least (times_volume (864 * S) points t) parts vs
            (omega (arith, ints, a, turn t, turn-back t)) in
            omega (arith, ints, clamps, e, c))),
        (λ h. risen-is t over within ∙ by_lt_z parts (pos 864 *ℤ (pos S *ℤ volume_at points tank.maximum))
            (λ lt. or-right (reaches S true (volume_at points tank.maximum) exact) (is_at_most (in_parts S v) exact)
            (let c : C ≤ℤ parts = omega (arith, ints, clamps, e, h, lt) in
            let l = times_rises v.den C parts c in
            le-from ((pos S *ℤ v.num) *ℤ pos 864) (parts *ℤ pos v.den)
            (omega (arith, ints, l, top, turn t, turn-back t))))
            (λ ge. or-left (reaches S true (volume_at points tank.maximum) exact) (is_at_most (in_parts S v) exact)
            (above-from S (volume_at points tank.maximum) exact (omega (arith, ints, ge))))),
      )

  -- ---- fallen

  fallen-always : (t : ℤ) → tank.maximum ≤ℤ t → has_reached S (Curve points) tank stock q false t seconds ≡ true
  fallen-always t high =
      let apart = basin.levels.apart in
      falls-by-level t (inl (omega (arith, ints, apart, high)))
      ∙ below-from S t carried (let a = wide-too carried.den tank.maximum t high in let b = carried-most in
      omega (arith, ints, a, b))

  fallen-never : (t : ℤ) → t <ℤ tank.minimum → has_reached S (Curve points) tank stock q false t seconds ≡ true → ⊥
  fallen-never t low e =
      let a = below-yes S t carried (sym (falls-by-level t (inr low)) ∙ e) in
      let l = wide carried.den t tank.minimum carried-den low in
      let m = carried-least in
      omega (arith, ints, a, l, m)

  pub fallen_least : IsTrue (has_reached S (Curve points) tank stock q false tank.minimum seconds) ↔
      (parts ≤ℤ (pos 864 *ℤ (pos S *ℤ volume_at points tank.minimum)))
  fallen_least =
      let le = le-from tank.minimum tank.minimum (omega (arith, ints)) in
      let bound : is_same_number tank.minimum tank.minimum ≡ true = both-true (int_le tank.minimum tank.minimum) le in
      let is : has_reached S (Curve points) tank stock q false tank.minimum seconds
      ≡ reaches S false (volume_at points tank.minimum) exact =
      ap (λ (c : Bool). if c then reaches S false (volume_at points tank.minimum) exact
      else reaches S false tank.minimum carried) bound in (
        (λ r. below-yes S (volume_at points tank.minimum) exact (sym is ∙ r)),
        (λ h. is ∙ below-from S (volume_at points tank.minimum) exact h),
      )

  -- a level that is held lies at most at t exactly where the exact volume is at most that at t and below that of the
  -- maximum
  fallen-down : (t : ℤ) → tank.minimum <ℤ t → t <ℤ tank.maximum
      → carried.num ≤ℤ (pos carried.den *ℤ (pos S *ℤ t))
      → (line-level.num ≤ℤ (pos line-level.den *ℤ (pos S *ℤ t)))
      × (parts <ℤ (pos 864 *ℤ (pos S *ℤ volume_at points tank.maximum)))
  fallen-down t over within =
      let bounds = level_bounds tank in
      let Goal = (λ (r : Rational). r.num ≤ℤ (pos r.den *ℤ (pos S *ℤ t))
      → (line-level.num ≤ℤ (pos line-level.den *ℤ (pos S *ℤ t)))
      × (parts <ℤ (pos 864 *ℤ (pos S *ℤ volume_at points tank.maximum)))) in
      let raise = wide-too line-level.den tank.minimum t (omega (arith, ints, over)) in
      let short : (pos S *ℤ tank.maximum) ≤ℤ (pos 1 *ℤ (pos S *ℤ t)) → ⊥ =
      (λ g. let w = wide 1 t tank.maximum (omega arith) within in
      omega (arith, ints, g, w, one_times (pos S *ℤ tank.maximum))) in
      placed-is Goal S (content_bounds (Curve points) tank) bounds exact (level_at_volume S points tank exact)
      (λ h g. absurd (short g))
      (λ h l g. (
        (let m = least-level l in omega (arith, ints, m, raise)),
        h,
      ))
      (λ h l. placed-is Goal S bounds bounds line-level line-level
      (λ m g. absurd (short g))
      (λ m k g. (omega (arith, ints, k, raise), h))
      (λ m k g. (g, h)))

  fallen-up : (t : ℤ) → tank.minimum <ℤ t → t <ℤ tank.maximum
      → line-level.num ≤ℤ (pos line-level.den *ℤ (pos S *ℤ t))
      → parts <ℤ (pos 864 *ℤ (pos S *ℤ volume_at points tank.maximum))
      → carried.num ≤ℤ (pos carried.den *ℤ (pos S *ℤ t))
  fallen-up t over within low short =
      let bounds = level_bounds tank in
      let Goal = (λ (r : Rational). r.num ≤ℤ (pos r.den *ℤ (pos S *ℤ t))) in
      let apart = wide line-level.den t tank.maximum line-den within in
      let raise = wide-too 1 tank.minimum t (omega (arith, ints, over)) in
      placed-is Goal S (content_bounds (Curve points) tank) bounds exact (level_at_volume S points tank exact)
      (λ h. absurd (omega (arith, ints, h, short)))
      (λ h l. omega (arith, ints, raise, one_times (pos S *ℤ tank.minimum)))
      (λ h l. placed-is Goal S bounds bounds line-level line-level
      (λ m. absurd (omega (arith, ints, m, low, apart)))
      (λ m k. omega (arith, ints, raise, one_times (pos S *ℤ tank.minimum)))
      (λ m k. low))

  pub fallen_met : (t z : ℤ) → tank.minimum <ℤ t → t <ℤ tank.maximum
      → z ≡ int_min (floor (times_volume (864 * S) points t))
      ((pos 864 *ℤ (pos S *ℤ volume_at points tank.maximum)) -ℤ pos 1)
      → IsTrue (has_reached S (Curve points) tank stock q false t seconds) ↔ (parts ≤ℤ z)
  fallen_met t z over within e = (
    (λ r. let b = below-yes S t carried (sym (falls-by-level t (inl over)) ∙ r) in
        let both = fallen-down t over within b in
        let u = under-back t both.0 in
        let s = both.1 in
        omega (arith, ints, clamps, e, u, s)),
    (λ h. falls-by-level t (inl over) ∙ below-from S t carried
        (fallen-up t over within (under t (omega (arith, ints, clamps, e, h))) (omega (arith, ints, clamps, e, h)))),
  )

  pub risen_always : (t : ℤ) → t ≤ℤ tank.minimum → IsTrue (has_reached S (Curve points) tank stock q true t seconds)
  risen_always t low = risen-always t low

  pub risen_never : (t : ℤ) → tank.maximum <ℤ t → IsTrue (has_reached S (Curve points) tank stock q true t seconds) → ⊥
  risen_never t high e = risen-never t high e

  pub fallen_always : (t : ℤ) → tank.maximum ≤ℤ t → IsTrue (has_reached S (Curve points) tank stock q false t seconds)
  fallen_always t high = fallen-always t high

  pub fallen_never : (t : ℤ) → t <ℤ tank.minimum
      → IsTrue (has_reached S (Curve points) tank stock q false t seconds) → ⊥
  fallen_never t low e = fallen-never t low e
