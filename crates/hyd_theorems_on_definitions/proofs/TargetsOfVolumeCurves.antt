-- Targets of a tank with a volume curve, as volumes.
use Rattle.std.proofs.Common.{◌≡◌, ℕ, ◌*◌, ◌<◌, ℤ, pos, ◌+ℤ◌, ◌*ℤ◌, ◌≤ℤ◌, ◌<ℤ◌, inl, inr, refl, sym, ap, subst, ◌∙◌}
use Rattle.std.proofs.Common.{arith, Bool, true, false, ◌&&◌, ◌||◌, List, [], ◌∷◌, mul-pos}
use Rattle.std.specs.Prelude.{int_le, map, if◌then◌else◌}
use Rattle.std.proofs.Math.IntN.{*ℤ_comm}
use Rattle.std.proofs.lemmas.Int.{ints}
use Rattle.std.proofs.lemmas.Bool.{cases_Bool}
use Rattle.hyd_num.proofs.Integers.{times_plus, times_rises, times_reflects, times_one, times_times, one_times}
use Rattle.hyd_num.specs.Rational.{Rational, floor, is_at_most}
use Rattle.hyd_net.specs.Curves.{value_at, volume_knots, volume_at, AreRising, IsVolumeCurve}
use Rattle.hyd_spec.specs.ProgramTypes.{Tank, VolumePoint}
use Rattle.hyd_spec.specs.Tank.{Curve, Stock, level_bounds, content_bounds, level_knots, level_on_curve}
use Rattle.hyd_spec.specs.Tank.{level_at_volume, carried_level, exact_content, reaches, is_bound, has_reached}
use Rattle.hyd_theorems_on_definitions.specs.LyingInIntervals.{in_parts}
use Rattle.hyd_lemmas.proofs.Integers.{exchanged, floor_low}
use Rattle.hyd_theorems_on_definitions.proofs.RisingLines.{some-den}
use Rattle.hyd_theorems_on_definitions.proofs.CurveLevels.{AreAlike, same, above, below, AreRisingPoints, at-level}
use Rattle.hyd_theorems_on_definitions.proofs.CurveLevels.{levels_undo, over-level, over-volume}
use Rattle.hyd_theorems_on_definitions.proofs.ValuesByContent.{above-yes, above-from, below-yes, below-from, placed-is}
use Rattle.hyd_lemmas.proofs.BooleanTests.{or-left, or-right, le-from, le-yes}
use Rattle.hyd_theorems_on_definitions.proofs.StocksInIntervals.{pairs-tail, exact-some, curve-some}

-- tests that follow from each other are one
pub one-test : (a b : Bool) → (a ≡ true → b ≡ true) → (b ≡ true → a ≡ true) → a ≡ b
one-test true b to back = sym (to refl)
one-test false true to back = back refl
one-test false false to back = refl

-- ---- the points of a curve

points-rise : (p : VolumePoint) (points : List VolumePoint) → AreRising
    (map (λ (q : VolumePoint). q.level) (p ∷ points)) → AreRising (map (λ (q : VolumePoint). q.volume) (p ∷ points))
    → AreRisingPoints p points
points-rise p [] levels volumes = tt
points-rise p (q ∷ points) levels volumes = (
  record {
    levels = levels 0 1 (pos 0) (omega arith) (omega arith);
    volumes = volumes 0 1 (pos 0) (omega arith) (omega arith);
  },
  points-rise q points (pairs-tail (λ a b. a <ℤ b) p.level (map (λ (q : VolumePoint). q.level) (q ∷ points)) levels)
      (pairs-tail (λ a b. a <ℤ b) p.volume (map (λ (q : VolumePoint). q.volume) (q ∷ points)) volumes),
)

volume-some : (points : List VolumePoint) (t : ℤ) → IsVolumeCurve points → 0 < (value_at 1 (volume_knots points) t).den
volume-some [] t curve = omega arith
volume-some (p ∷ points) t curve = some-den 1 (at-level p) (volume_knots points) t

alike : (T : ℕ) (points : List VolumePoint) (t n : ℤ) → 0 < T → IsVolumeCurve points
    → AreAlike (over-level T (value_at T (level_knots points) n) t)
    (over-volume T (value_at 1 (volume_knots points) t) n)
alike T [] t n some curve = absurd (let two = curve.two in omega (arith, two))
alike T (p ∷ []) t n some curve = absurd (let two = curve.two in omega (arith, two))
alike T (p ∷ (q ∷ rest)) t n some curve = levels_undo T p q rest t n some
    (points-rise p (q ∷ rest) curve.levels_rise curve.volumes_rise)

-- ---- a level is at or beyond a target where the volume is at or beyond that of the target

module _ (S : ℕ) (points : List VolumePoint) (x : Rational) (t : ℤ) (some : 0 < S) (x-some : 0 < x.den)
    (curve : IsVolumeCurve points) where
  abbrev fine : Rational
  fine = value_at (S * x.den) (level_knots points) x.num

  abbrev level : Rational
  level = level_on_curve S points x

  abbrev volume : Rational
  volume = value_at 1 (volume_knots points) t

  signs : AreAlike (over-level (S * x.den) fine t) (over-volume (S * x.den) volume x.num)
  signs = alike (S * x.den) points t x.num (mul-pos some x-some) curve

  at-target : pos level.den *ℤ (pos S *ℤ t) ≡ pos fine.den *ℤ (pos (S * x.den) *ℤ t)
  at-target = sym (times_times fine.den x.den (pos S *ℤ t))
      ∙ ap (λ (z : ℤ). pos fine.den *ℤ z) (exchanged S x.den t ∙ times_times S x.den t)

  of-volume : pos x.den *ℤ (pos S *ℤ volume.num) ≡ pos (S * x.den) *ℤ volume.num
  of-volume = exchanged S x.den volume.num ∙ times_times S x.den volume.num

  up : (pos level.den *ℤ (pos S *ℤ t)) ≤ℤ level.num → (pos x.den *ℤ (pos S *ℤ volume.num)) ≤ℤ (pos volume.den *ℤ x.num)
  up h = elim signs [
    | same e ↦ omega (arith, ints, h, e, at-target, of-volume)
    | above a b ↦ omega (arith, ints, b, of-volume)
    | below a b ↦ absurd (omega (arith, ints, h, a, at-target))
  ]

  up-back : (pos x.den *ℤ (pos S *ℤ volume.num)) ≤ℤ (pos volume.den *ℤ x.num) → (pos level.den *ℤ (pos S *ℤ t))
      ≤ℤ level.num
  up-back h = elim signs [
    | same e ↦ omega (arith, ints, h, e, at-target, of-volume)
    | above a b ↦ omega (arith, ints, a, at-target)
    | below a b ↦ absurd (omega (arith, ints, h, b, of-volume))
  ]

  down : level.num ≤ℤ (pos level.den *ℤ (pos S *ℤ t)) → (pos volume.den *ℤ x.num)
      ≤ℤ (pos x.den *ℤ (pos S *ℤ volume.num))
  down h = elim signs [
    | same e ↦ omega (arith, ints, h, e, at-target, of-volume)
    | above a b ↦ absurd (omega (arith, ints, h, a, at-target))
    | below a b ↦ omega (arith, ints, b, of-volume)
  ]

  down-back : (pos volume.den *ℤ x.num) ≤ℤ (pos x.den *ℤ (pos S *ℤ volume.num))
      → level.num ≤ℤ (pos level.den *ℤ (pos S *ℤ t))
  down-back h = elim signs [
    | same e ↦ omega (arith, ints, h, e, at-target, of-volume)
    | above a b ↦ absurd (omega (arith, ints, h, b, of-volume))
    | below a b ↦ omega (arith, ints, a, at-target)
  ]

  pub rising_target : reaches S true t level ≡ is_at_most (in_parts S volume) x
  rising_target = one-test (reaches S true t level) (is_at_most (in_parts S volume) x)
      (λ e. le-from ((pos S *ℤ volume.num) *ℤ pos x.den) (x.num *ℤ pos volume.den)
      (let a = up (above-yes S t level e) in
      omega (arith, ints, a, *ℤ_comm (pos S *ℤ volume.num) (pos x.den), *ℤ_comm x.num (pos volume.den))))
      (λ e. above-from S t level (up-back
      (let a = le-yes ((pos S *ℤ volume.num) *ℤ pos x.den) (x.num *ℤ pos volume.den) e in
      omega (arith, ints, a, *ℤ_comm (pos S *ℤ volume.num) (pos x.den), *ℤ_comm x.num (pos volume.den)))))

  pub falling_target : reaches S false t level ≡ is_at_most x (in_parts S volume)
  falling_target = one-test (reaches S false t level) (is_at_most x (in_parts S volume))
      (λ e. le-from (x.num *ℤ pos volume.den) ((pos S *ℤ volume.num) *ℤ pos x.den)
      (let a = down (below-yes S t level e) in
      omega (arith, ints, a, *ℤ_comm (pos S *ℤ volume.num) (pos x.den), *ℤ_comm x.num (pos volume.den))))
      (λ e. below-from S t level (down-back
      (let a = le-yes (x.num *ℤ pos volume.den) ((pos S *ℤ volume.num) *ℤ pos x.den) e in
      omega (arith, ints, a, *ℤ_comm (pos S *ℤ volume.num) (pos x.den), *ℤ_comm x.num (pos volume.den)))))

-- ---- the maximum

same-number : (tank : Tank) → is_bound tank true tank.maximum ≡ true
same-number tank = and-true-both (int_le tank.maximum tank.maximum)
    (le-from tank.maximum tank.maximum (omega (arith, ints)))
  where
    and-true-both : (b : Bool) → b ≡ true → (b && b) ≡ true
    and-true-both true e = refl
    and-true-both false e = e

-- a tank with a curve has its maximum as its carried level exactly where its exact volume is at least that of the
-- maximum
pub at_maximum : (S : ℕ) (points : List VolumePoint) (tank : Tank) (stock : Stock) (q : ℤ) (seconds : ℕ) → 0 < S
    → IsVolumeCurve points → tank.minimum <ℤ tank.maximum
    → has_reached S (Curve points) tank stock q true tank.maximum seconds ≡ reaches S true tank.maximum
    (carried_level S (Curve points) tank stock q seconds)
at_maximum S points tank stock q seconds some curve apart =
    let exact = exact_content (Curve points) stock q seconds in
    let contents = content_bounds (Curve points) tank in
    let bounds = level_bounds tank in
    let exact-den : 0 < exact.den = exact-some (Curve points) stock q seconds (curve.levels_rise, curve.volumes_rise) in
    let level = level_on_curve S points exact in
    let lower = times_rises S (tank.minimum +ℤ pos 1) tank.maximum (omega (arith, ints, apart)) in
    let short : (pos 1 *ℤ (pos S *ℤ tank.maximum)) ≤ℤ (pos S *ℤ tank.minimum) → ⊥ =
    (λ h. omega (
      arith,
      ints,
      h,
      lower,
      some,
      times_plus S tank.minimum (pos 1),
      times_one S,
      one_times
          (pos S *ℤ tank.maximum),
    )) in
    subst (λ (b : Bool). (if b then reaches S true (volume_at points tank.maximum) exact
    else reaches S true tank.maximum (carried_level S (Curve points) tank stock q seconds))
    ≡ reaches S true tank.maximum (carried_level S (Curve points) tank stock q seconds)) (sym (same-number tank))
    (one-test (reaches S true (volume_at points tank.maximum) exact)
    (reaches S true tank.maximum (carried_level S (Curve points) tank stock q seconds))
    (λ e. above-from S tank.maximum (carried_level S (Curve points) tank stock q seconds)
    (placed-is (λ (r : Rational). (pos r.den *ℤ (pos S *ℤ tank.maximum)) ≤ℤ r.num) S contents bounds exact
    (level_at_volume S points tank exact)
    (λ h. omega (arith, ints, one_times (pos S *ℤ tank.maximum)))
    (λ h l. absurd (let a = above-yes S (volume_at points tank.maximum) exact e in omega (arith, ints, a, h)))
    (λ h l. absurd (let a = above-yes S (volume_at points tank.maximum) exact e in omega (arith, ints, a, h)))))
    (λ e. above-from S (volume_at points tank.maximum) exact
    (placed-is (λ (r : Rational). (pos r.den *ℤ (pos S *ℤ tank.maximum)) ≤ℤ r.num
    → (pos exact.den *ℤ (pos S *ℤ volume_at points tank.maximum)) ≤ℤ exact.num)
    S contents bounds exact (level_at_volume S points tank exact)
    (λ h g. h)
    (λ h l g. absurd (short g))
    (λ h l. placed-is (λ (r : Rational). (pos r.den *ℤ (pos S *ℤ tank.maximum)) ≤ℤ r.num
    → (pos exact.den *ℤ (pos S *ℤ volume_at points tank.maximum)) ≤ℤ exact.num)
    S bounds bounds level level
    (λ m g. cut (up S points exact tank.maximum some exact-den curve m))
    (λ m k g. absurd (short g))
    (λ m k g. absurd (omega (arith, ints, m, g))))
    (above-yes S tank.maximum (carried_level S (Curve points) tank stock q seconds) e))))
  where
    -- the volume at the maximum is cut
    cut : (let v = value_at 1 (volume_knots points) tank.maximum in
        (pos (exact_content (Curve points) stock q seconds).den *ℤ (pos S *ℤ v.num))
        ≤ℤ (pos v.den *ℤ (exact_content (Curve points) stock q seconds).num))
        → (pos (exact_content (Curve points) stock q seconds).den *ℤ (pos S *ℤ volume_at points tank.maximum))
        ≤ℤ (exact_content (Curve points) stock q seconds).num
    cut h =
        let v = value_at 1 (volume_knots points) tank.maximum in
        let exact = exact_content (Curve points) stock q seconds in
        let v-some = volume-some points tank.maximum curve in
        let f = floor_low v v-some in
        let a = times_rises exact.den (pos S *ℤ (pos v.den *ℤ floor v)) (pos S *ℤ v.num)
        (times_rises S (pos v.den *ℤ floor v) v.num f) in
        let same-product : pos exact.den *ℤ (pos S *ℤ (pos v.den *ℤ floor v)) ≡ pos v.den
        *ℤ (pos exact.den *ℤ (pos S *ℤ floor v)) =
        ap (λ (z : ℤ). pos exact.den *ℤ z) (exchanged v.den S (floor v)) ∙ exchanged v.den exact.den
        (pos S *ℤ floor v) in
        times_reflects v.den (pos exact.den *ℤ (pos S *ℤ floor v)) exact.num v-some
        (omega (arith, ints, a, h, same-product))

-- ---- a target from below, as a volume

-- the carried level has risen to a target above the minimum where the exact volume is at least that of the maximum, or
-- that at the target
pub risen_to : (S : ℕ) (points : List VolumePoint) (tank : Tank) (stock : Stock) (q t : ℤ) (seconds : ℕ) → 0 < S
    → IsVolumeCurve points → tank.minimum <ℤ t → t ≤ℤ tank.maximum
    → reaches S true t (carried_level S (Curve points) tank stock q seconds)
    ≡ (reaches S true (volume_at points tank.maximum) (exact_content (Curve points) stock q seconds)
    || is_at_most (in_parts S (value_at 1 (volume_knots points) t)) (exact_content (Curve points) stock q seconds))
risen_to S points tank stock q t seconds some curve over within =
    let exact = exact_content (Curve points) stock q seconds in
    let contents = content_bounds (Curve points) tank in
    let bounds = level_bounds tank in
    let exact-den : 0 < exact.den = exact-some (Curve points) stock q seconds (curve.levels_rise, curve.volumes_rise) in
    let level = level_on_curve S points exact in
    let v = value_at 1 (volume_knots points) t in
    let at_most = reaches S true (volume_at points tank.maximum) exact in
    let at_target = is_at_most (in_parts S v) exact in
    let short : (pos 1 *ℤ (pos S *ℤ t)) ≤ℤ (pos S *ℤ tank.minimum) → ⊥ =
    (λ h. let l = times_rises S (tank.minimum +ℤ pos 1) t (omega (arith, ints, over)) in
    omega (arith, ints, h, l, some, times_plus S tank.minimum (pos 1), times_one S, one_times (pos S *ℤ t))) in
    one-test (reaches S true t (carried_level S (Curve points) tank stock q seconds)) (at_most || at_target)
    (λ e. placed-is (λ (r : Rational). (pos r.den *ℤ (pos S *ℤ t)) ≤ℤ r.num → (at_most || at_target) ≡ true) S
    contents bounds exact (level_at_volume S points tank exact)
    (λ h g. or-left at_most at_target (above-from S (volume_at points tank.maximum) exact h))
    (λ h l g. absurd (short g))
    (λ h l. placed-is (λ (r : Rational). (pos r.den *ℤ (pos S *ℤ t)) ≤ℤ r.num → (at_most || at_target) ≡ true) S
    bounds bounds level level
    (λ m g. or-right at_most at_target (sym (rising_target S points exact t some exact-den curve)
    ∙ above-from S t level (raise level m)))
    (λ m k g. absurd (short g))
    (λ m k g. or-right at_most at_target (sym (rising_target S points exact t some exact-den curve)
    ∙ above-from S t level g)))
    (above-yes S t (carried_level S (Curve points) tank stock q seconds) e))
    (λ e. above-from S t (carried_level S (Curve points) tank stock q seconds)
    (placed-is (λ (r : Rational). (pos r.den *ℤ (pos S *ℤ t)) ≤ℤ r.num) S contents bounds exact
    (level_at_volume S points tank exact)
    (λ h. let l = times_rises S t tank.maximum within in omega (arith, ints, l, one_times (pos S *ℤ t)))
    (λ h l. absurd (apart exact exact-den (above-yes S t level (rising_target S points exact t some exact-den curve
    ∙ second at_most at_target e (not-most exact h))) l))
    (λ h l. placed-is (λ (r : Rational). (pos r.den *ℤ (pos S *ℤ t)) ≤ℤ r.num) S bounds bounds level level
    (λ m. let k = times_rises S t tank.maximum within in omega (arith, ints, k, one_times (pos S *ℤ t)))
    (λ m k. absurd (let a = above-yes S t level (rising_target S points exact t some exact-den curve
    ∙ second at_most at_target e (not-most exact h)) in
    let b = times_rises level.den (pos S *ℤ (tank.minimum +ℤ pos 1)) (pos S *ℤ t)
    (times_rises S (tank.minimum +ℤ pos 1) t (omega (arith, ints, over))) in
    gap level (curve-some S points exact (curve.levels_rise, curve.volumes_rise) exact-den) a b k))
    (λ m k. above-yes S t level (rising_target S points exact t some exact-den curve ∙ second at_most at_target e
    (not-most exact h))))))
  where
    raise : (r : Rational) → (pos r.den *ℤ (pos S *ℤ tank.maximum)) ≤ℤ r.num → (pos r.den *ℤ (pos S *ℤ t)) ≤ℤ r.num
    raise r m = let l = times_rises r.den (pos S *ℤ t) (pos S *ℤ tank.maximum)
        (times_rises S t tank.maximum within) in omega (arith, ints, l, m)

    not-most : (x : Rational) → x.num <ℤ (pos x.den *ℤ (pos S *ℤ volume_at points tank.maximum))
        → reaches S true (volume_at points tank.maximum) x ≡ false
    not-most x h = elim (cases_Bool (reaches S true (volume_at points tank.maximum) x)) [
      | inl held ↦ absurd (let a = above-yes S (volume_at points tank.maximum) x held in omega (arith, ints, a, h))
      | inr fails ↦ fails
    ]

    second : (a b : Bool) → (a || b) ≡ true → a ≡ false → b ≡ true
    second true b e f = absurd (cc)
    second false b e f = e

    gap : (r : Rational) → 0 < r.den → (pos r.den *ℤ (pos S *ℤ t)) ≤ℤ r.num
        → (pos r.den *ℤ (pos S *ℤ (tank.minimum +ℤ pos 1))) ≤ℤ (pos r.den *ℤ (pos S *ℤ t))
        → r.num ≤ℤ (pos r.den *ℤ (pos S *ℤ tank.minimum)) → ⊥
    gap r r-some a b c =
        let one : pos r.den *ℤ (pos S *ℤ (tank.minimum +ℤ pos 1)) ≡ (pos r.den *ℤ (pos S *ℤ tank.minimum))
        +ℤ (pos r.den *ℤ pos S) =
        ap (λ (z : ℤ). pos r.den *ℤ z) (times_plus S tank.minimum (pos 1)
        ∙ ap (λ (z : ℤ). (pos S *ℤ tank.minimum) +ℤ z) (times_one S)) ∙ times_plus r.den (pos S *ℤ tank.minimum)
        (pos S) in
        let positive = times_rises r.den (pos 1) (pos S) (omega (arith, ints, some)) in
        omega (arith, ints, a, b, c, one, positive, times_one r.den, r-some)

    -- no volume up to that of the minimum has a level above it
    apart : (x : Rational) → 0 < x.den → (pos (level_on_curve S points x).den *ℤ (pos S *ℤ t))
        ≤ℤ (level_on_curve S points x).num
        → x.num ≤ℤ (pos x.den *ℤ (pos S *ℤ volume_at points tank.minimum)) → ⊥
    apart x x-some a low =
        let r = level_on_curve S points x in
        let v = value_at 1 (volume_knots points) tank.minimum in
        let v-some = volume-some points tank.minimum curve in
        let f = floor_low v v-some in
        let c = times_rises v.den x.num (pos x.den *ℤ (pos S *ℤ floor v)) low in
        let d = times_rises x.den (pos S *ℤ (pos v.den *ℤ floor v)) (pos S *ℤ v.num)
        (times_rises S (pos v.den *ℤ floor v) v.num f) in
        let same-product : pos x.den *ℤ (pos S *ℤ (pos v.den *ℤ floor v)) ≡ pos v.den
        *ℤ (pos x.den *ℤ (pos S *ℤ floor v)) =
        ap (λ (z : ℤ). pos x.den *ℤ z) (exchanged v.den S (floor v)) ∙ exchanged v.den x.den (pos S *ℤ floor v) in
        let below-minimum = down-back S points x tank.minimum some x-some curve
        (omega (arith, ints, c, d, same-product)) in
        let b = times_rises r.den (pos S *ℤ (tank.minimum +ℤ pos 1)) (pos S *ℤ t)
        (times_rises S (tank.minimum +ℤ pos 1) t (omega (arith, ints, over))) in
        gap r (curve-some S points x (curve.levels_rise, curve.volumes_rise) x-some) a b below-minimum
