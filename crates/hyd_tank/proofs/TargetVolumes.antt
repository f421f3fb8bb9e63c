-- Target levels of a tank with a volume curve, as volumes in parts.
use Rattle.std.proofs.Common.{◌≡◌, ℕ, ◌<◌, ◌↔◌, ◌⊎◌, ℤ, pos, neg_ℤ, ◌+ℤ◌, ◌-ℤ◌, ◌*ℤ◌, ◌≤ℤ◌, ◌<ℤ◌, Bool, true, false}
use Rattle.std.proofs.Common.{◌||◌, ◌&&◌, List, inl, inr, refl, sym, ap, subst, ◌∙◌, arith, IsTrue, to_z, of_z, w64}
use Rattle.std.specs.Prelude.{int_le, if◌then◌else◌}
use Rattle.std.specs.Int.{int_min, w128}
use Rattle.std.proofs.Math.IntN.{*ℤ_comm}
use Rattle.std.proofs.lemmas.Int.{ints, clamps, by_lt_z}
use Rattle.hyd_spec.specs.WholeNumbers.{is_same_number}
use Rattle.hyd_lemmas.proofs.BooleanTests.{or-left, or-right, le-from, le-yes, and-false, le-not}
use Rattle.hyd_theorems_on_definitions.proofs.RisingLines.{value-den}
use Rattle.hyd_num.proofs.Integers.{times_plus, times_neg, times_rises, times_one, one_times}
use Rattle.hyd_num.specs.Rational.{Rational, floor, ceiling, is_at_most}
use Rattle.hyd_net.specs.Curves.{value_at, volume_at, volume_knots}
use Rattle.hyd_spec.specs.ProgramTypes.{Tank, VolumePoint}
use Rattle.hyd_spec.specs.Tank.{Stock, Curve, Bounds, level_bounds, content_bounds, exact_content, level_on_curve}
use Rattle.hyd_spec.specs.Tank.{level_at_volume, carried_level, reaches, has_reached}
use Rattle.hyd_lemmas.proofs.Integers.{exchanged, floor_low, floor_greatest, ceiling_high, ceiling_least}
use Rattle.hyd_theorems_on_definitions.specs.LyingInIntervals.{in_parts}
use Rattle.hyd_theorems_on_definitions.specs.SoundTanks.{IsVessel}
use Rattle.hyd_theorems_on_definitions.proofs.ValuesAtTwoScales.{one-within}
use Rattle.hyd_theorems_on_definitions.proofs.StocksInIntervals.{level-fits-at, carried-some, curve-some}
use Rattle.hyd_theorems_on_definitions.proofs.ValuesByContent.{above-yes, above-from, below-yes, below-from, placed-is}
use Rattle.hyd_theorems_on_definitions.proofs.ValuesByContent.{placed-most, placed-least}
use Rattle.hyd_theorems_on_definitions.proofs.TargetsOfVolumeCurves.{falling_target, at_maximum, risen_to}
use Rattle.hyd_spec_certificates.specs.FirstSeconds.{IsFirstSecond}
use Rattle.hyd_tank.specs.declared.contents_of_tanks.Bounds.{Bounds as Limits}
use Rattle.hyd_tank.specs.declared.volume_curve.Mixed.{Mixed}
use Rattle.hyd_tank.specs.declared.first_second_at_target.Target.{Target}
use Rattle.hyd_tank.specs.Contents.{IsFirstMeeting}
use Rattle.hyd_tank.specs.CurveByLevelOrVolume.{value_of, times_value}
use Rattle.hyd_tank.proofs.MixedNumbers.{start_is}
use Rattle.hyd_tank.proofs.RateMeetsNeed.{first_like}
use Rattle.hyd_tank.specs.StockIntervals.{IsBasin}
use Rattle.hyd_tank.specs.Targets.{AreVolumes, StandsFor, Meets, IsFirstMet}
use Rattle.hyd_tank.specs.declared.first_second_at_target.Target.TheVariants.{Always, Never, Parts}

both-true : (b : Bool) → b ≡ true → (b && b) ≡ true
both-true true e = refl
both-true false e = e

or-both : (a b : Bool) (P : Type 0) → (a || b) ≡ true → (a ≡ true → P) → (b ≡ true → P) → P
or-both true b P e l r = l refl
or-both false b P e l r = r e

-- ---- what a carried level says of the exact volume

module _ (tank : Tank) (points : List VolumePoint) (basin : IsBasin tank points) (stock : Stock) (q : ℤ) (seconds : ℕ)
  where
    -- the exact volume, in parts
    abbrev parts : ℤ
    parts = (pos 864 *ℤ stock.volume) +ℤ (pos seconds *ℤ q)

    abbrev exact : Rational
    exact = exact_content (Curve points) stock q seconds

    abbrev carried : Rational
    carried = carried_level 1 (Curve points) tank stock q seconds

    vessel : IsVessel (Curve points) tank
    vessel =
        let apart = basin.levels.apart in
        let volumes = basin.shape.apart in
        record {
          holds_water = (basin.shape.curve.levels_rise, basin.shape.curve.volumes_rise);
          ordered = omega (arith, ints, apart);
          contents_ordered = omega (arith, ints, volumes);
        }

    -- the carried level lies between the tank's bounds
    carried-most : carried.num ≤ℤ (pos carried.den *ℤ tank.maximum)
    carried-most =
        let apart = basin.levels.apart in
        let l = placed-most 1 (content_bounds (Curve points) tank) (level_bounds tank) exact
        (level_at_volume 1 points tank exact) (omega (arith, ints, apart))
        (level-fits-at 1 (Curve points) tank exact vessel (omega arith)) in
        omega (arith, ints, l, one-within carried.den tank.maximum)

    carried-least : (pos carried.den *ℤ tank.minimum) ≤ℤ carried.num
    carried-least =
        let apart = basin.levels.apart in
        let l = placed-least 1 (content_bounds (Curve points) tank) (level_bounds tank) exact
        (level_at_volume 1 points tank exact) (omega (arith, ints, apart))
        (level-fits-at 1 (Curve points) tank exact vessel (omega arith)) in
        omega (arith, ints, l, one-within carried.den tank.minimum)

    carried-den : 0 < carried.den
    carried-den = carried-some 1 (Curve points) tank stock q seconds vessel

    -- the level on the lines of the curve
    abbrev line-level : Rational
    line-level = level_on_curve 1 points exact

    line-den : 0 < line-level.den
    line-den = curve-some 1 points exact vessel.holds_water (omega arith)

    module _ (t : ℤ) where
      abbrev value : Rational
      value = value_at 1 (volume_knots points) t

      value-some : 0 < value.den
      value-some = value-den 1 (volume_knots points) t

      turn : (parts *ℤ pos value.den) ≡ (pos value.den *ℤ parts)
      turn = *ℤ_comm parts (pos value.den)

      turn-back : ((pos 1 *ℤ value.num) *ℤ pos 864) ≡ (pos 864 *ℤ value.num)
      turn-back = *ℤ_comm (pos 1 *ℤ value.num) (pos 864) ∙ one-within 864 value.num

      -- at most a level exactly where the volume is at most that at it
      under : parts ≤ℤ floor (record {
        num = pos 864 *ℤ value.num;
        den = value.den;
      }) → line-level.num ≤ℤ (pos line-level.den *ℤ t)
      under h =
          let f = floor_low (record { num = pos 864 *ℤ value.num; den = value.den }) value-some in
          let l = times_rises value.den parts (floor (record { num = pos 864 *ℤ value.num; den = value.den })) h in
          let e = falling_target 1 points exact t (omega arith) (omega arith) basin.shape.curve in
          let s = le-from (parts *ℤ pos value.den) ((pos 1 *ℤ value.num) *ℤ pos 864)
          (omega (arith, ints, f, l, turn, turn-back)) in
          let b = below-yes 1 t line-level (e ∙ s) in
          omega (arith, ints, b, one-within line-level.den t)

      under-back : line-level.num ≤ℤ (pos line-level.den *ℤ t) → parts ≤ℤ floor (record {
        num = pos 864 *ℤ value.num;
        den = value.den;
      })
      under-back h =
          let e = falling_target 1 points exact t (omega arith) (omega arith) basin.shape.curve in
          let b = below-from 1 t line-level (omega (arith, ints, h, one-within line-level.den t)) in
          let s = le-yes (parts *ℤ pos value.den) ((pos 1 *ℤ value.num) *ℤ pos 864) (sym e ∙ b) in
          floor_greatest (record {
            num = pos 864 *ℤ value.num;
            den = value.den;
          }) parts value-some (omega (arith, ints, s, turn, turn-back))

    -- no more volume than at the minimum: the level is at most the minimum
    least-level : parts ≤ℤ (pos 864 *ℤ volume_at points tank.minimum)
        → line-level.num ≤ℤ (pos line-level.den *ℤ tank.minimum)
    least-level h =
        let v = value_at 1 (volume_knots points) tank.minimum in
        let some = value-den 1 (volume_knots points) tank.minimum in
        let f = floor_low v some in
        let l = times_rises 864 (pos v.den *ℤ floor v) v.num f in
        let g = floor_greatest (record {
          num = pos 864 *ℤ v.num;
          den = v.den;
        }) (pos 864 *ℤ floor v) some (omega (arith, ints, l, exchanged v.den 864 (floor v))) in
        under tank.minimum (omega (arith, ints, h, g))

    -- ---- whether a target is the bound there

    same-not : (a b : ℤ) → (a <ℤ b) ⊎ (b <ℤ a) → is_same_number a b ≡ false
    same-not a b (inl h) = ap (λ (c : Bool). int_le a b && c) (le-not b a h) ∙ and-false (int_le a b)
    same-not a b (inr h) = ap (λ (c : Bool). c && int_le b a) (le-not a b h)

    rises-by-level : (t : ℤ) → (tank.maximum <ℤ t) ⊎ (t <ℤ tank.maximum)
        → has_reached 1 (Curve points) tank stock q true t seconds ≡ reaches 1 true t carried
    rises-by-level t h = ap (λ (c : Bool). if c then reaches 1 true (volume_at points t) exact else reaches 1 true t
        carried) (same-not tank.maximum t h)

    falls-by-level : (t : ℤ) → (tank.minimum <ℤ t) ⊎ (t <ℤ tank.minimum)
        → has_reached 1 (Curve points) tank stock q false t seconds ≡ reaches 1 false t carried
    falls-by-level t h = ap (λ (c : Bool). if c then reaches 1 false (volume_at points t) exact else reaches 1 false t
        carried) (same-not tank.minimum t h)

    -- ---- risen

    risen-always : (t : ℤ) → t ≤ℤ tank.minimum → has_reached 1 (Curve points) tank stock q true t seconds ≡ true
    risen-always t low =
        let apart = basin.levels.apart in
        rises-by-level t (inr (omega (arith, ints, apart)))
        ∙ above-from 1 t carried (let a = times_rises carried.den t tank.minimum low in let b = carried-least in
        omega (arith, ints, a, b, one-within carried.den t))

    risen-never : (t : ℤ) → tank.maximum <ℤ t → has_reached 1 (Curve points) tank stock q true t seconds ≡ true → ⊥
    risen-never t high e =
        let a = above-yes 1 t carried (sym (rises-by-level t (inl high)) ∙ e) in
        let l = times_rises carried.den (tank.maximum +ℤ pos 1) t (omega (arith, ints, high)) in
        let m = carried-most in
        let some = carried-den in
        omega (
          arith,
          ints,
          a,
          l,
          m,
          some,
          one-within carried.den t,
          times_plus carried.den tank.maximum (pos 1),
          times_one carried.den,
        )

    risen-is : (t : ℤ) → tank.minimum <ℤ t → t ≤ℤ tank.maximum
        → has_reached 1 (Curve points) tank stock q true t seconds
        ≡ (reaches 1 true (volume_at points tank.maximum) exact
        || is_at_most (in_parts 1 (value_at 1 (volume_knots points) t)) exact)
    risen-is t over within = by_lt_z t tank.maximum
        (λ lt. rises-by-level t (inr lt) ∙ risen_to 1 points tank stock q t seconds (omega arith) basin.shape.curve over
        within)
        (λ ge. let e : tank.maximum ≡ t = omega (arith, ints, within, ge) in
        subst (λ (z : ℤ). has_reached 1 (Curve points) tank stock q true z seconds
        ≡ (reaches 1 true (volume_at points tank.maximum) exact
        || is_at_most (in_parts 1 (value_at 1 (volume_knots points) z)) exact)) e
        (at_maximum 1 points tank stock q seconds (omega arith) basin.shape.curve basin.levels.apart
        ∙ risen_to 1 points tank stock q tank.maximum seconds (omega arith) basin.shape.curve basin.levels.apart
        (omega (arith, ints))))

    risen-met : (t z : ℤ) → tank.minimum <ℤ t → t ≤ℤ tank.maximum
        → z ≡ int_min (ceiling (record {
          num = pos 864 *ℤ (value_at 1 (volume_knots points) t).num;
          den = (value_at 1 (volume_knots points) t).den;
        })) (pos 864 *ℤ volume_at points tank.maximum)
        → IsTrue (has_reached 1 (Curve points) tank stock q true t seconds) ↔ (z ≤ℤ parts)
    risen-met t z over within e =
        let v = value_at 1 (volume_knots points) t in
        let vs = value-some t in
        let C = ceiling (record { num = pos 864 *ℤ v.num; den = v.den }) in
        let top = ceiling_high (record { num = pos 864 *ℤ v.num; den = v.den }) vs in (
          (λ r. or-both (reaches 1 true (volume_at points tank.maximum) exact) (is_at_most (in_parts 1 v) exact)
              (z ≤ℤ parts) (sym (risen-is t over within) ∙ r)
              (λ f. let a = above-yes 1 (volume_at points tank.maximum) exact f in
              omega (arith, ints, clamps, e, a, one-within 864 (volume_at points tank.maximum)))
              (λ f. let a = le-yes ((pos 1 *ℤ v.num) *ℤ pos 864) (parts *ℤ pos v.den) f in
              let c = ceiling_least (record {
                num = pos 864 *ℤ v.num;
                den = v.den;
              }) parts vs (omega (arith, ints, a, turn t, turn-back t)) in
              omega (arith, ints, clamps, e, c))),
          (λ h. risen-is t over within ∙ by_lt_z parts (pos 864 *ℤ volume_at points tank.maximum)
              (λ lt. or-right (reaches 1 true (volume_at points tank.maximum) exact) (is_at_most (in_parts 1 v) exact)
              (let c : C ≤ℤ parts = omega (arith, ints, clamps, e, h, lt) in
              let l = times_rises v.den C parts c in
              le-from ((pos 1 *ℤ v.num) *ℤ pos 864) (parts *ℤ pos v.den)
              (omega (arith, ints, l, top, turn t, turn-back t))))
              (λ ge. or-left (reaches 1 true (volume_at points tank.maximum) exact) (is_at_most (in_parts 1 v) exact)
              (above-from 1 (volume_at points tank.maximum) exact
              (omega (arith, ints, ge, one-within 864 (volume_at points tank.maximum)))))),
        )

    -- ---- fallen

    fallen-always : (t : ℤ) → tank.maximum ≤ℤ t → has_reached 1 (Curve points) tank stock q false t seconds ≡ true
    fallen-always t high =
        let apart = basin.levels.apart in
        falls-by-level t (inl (omega (arith, ints, apart)))
        ∙ below-from 1 t carried (let a = times_rises carried.den tank.maximum t high in let b = carried-most in
        omega (arith, ints, a, b, one-within carried.den t))

    fallen-never : (t : ℤ) → t <ℤ tank.minimum → has_reached 1 (Curve points) tank stock q false t seconds ≡ true → ⊥
    fallen-never t low e =
        let a = below-yes 1 t carried (sym (falls-by-level t (inr low)) ∙ e) in
        let l = times_rises carried.den (t +ℤ pos 1) tank.minimum (omega (arith, ints, low)) in
        let m = carried-least in
        let some = carried-den in
        omega (
          arith,
          ints,
          a,
          l,
          m,
          some,
          one-within carried.den t,
          times_plus carried.den t (pos 1),
          times_one
              carried.den,
        )

    fallen-least : IsTrue (has_reached 1 (Curve points) tank stock q false tank.minimum seconds) ↔
        (parts ≤ℤ (pos 864 *ℤ volume_at points tank.minimum))
    fallen-least =
        let le = le-from tank.minimum tank.minimum (omega (arith, ints)) in
        let bound : is_same_number tank.minimum tank.minimum ≡ true = both-true (int_le tank.minimum tank.minimum) le in
        let is : has_reached 1 (Curve points) tank stock q false tank.minimum seconds
        ≡ reaches 1 false (volume_at points tank.minimum) exact =
        ap (λ (c : Bool). if c then reaches 1 false (volume_at points tank.minimum) exact
        else reaches 1 false tank.minimum carried) bound in (
          (λ r. let b = below-yes 1 (volume_at points tank.minimum) exact (sym is ∙ r) in
              omega (arith, ints, b, one-within 864 (volume_at points tank.minimum))),
          (λ h. is ∙ below-from 1 (volume_at points tank.minimum) exact
              (omega (arith, ints, h, one-within 864 (volume_at points tank.minimum)))),
        )

    -- a level that is held lies at most at t exactly where the exact volume is at most that at t and below that of the
    -- maximum
    fallen-down : (t : ℤ) → tank.minimum <ℤ t → t <ℤ tank.maximum → carried.num ≤ℤ (pos carried.den *ℤ t)
        → (line-level.num ≤ℤ (pos line-level.den *ℤ t)) × (parts <ℤ (pos 864 *ℤ volume_at points tank.maximum))
    fallen-down t over within =
        let bounds = level_bounds tank in
        let Goal = (λ (r : Rational). r.num ≤ℤ (pos r.den *ℤ t) → (line-level.num ≤ℤ (pos line-level.den *ℤ t))
        × (parts <ℤ (pos 864 *ℤ volume_at points tank.maximum))) in
        let raise = times_rises line-level.den tank.minimum t (omega (arith, ints, over)) in
        let short : (pos 1 *ℤ tank.maximum) ≤ℤ (pos 1 *ℤ t) → ⊥ =
        (λ g. omega (arith, ints, g, within, one_times tank.maximum, one_times t)) in
        placed-is Goal 1 (content_bounds (Curve points) tank) bounds exact (level_at_volume 1 points tank exact)
        (λ h g. absurd (short g))
        (λ h l g. (
          (let m = least-level (omega (arith, ints, l, one-within 864 (volume_at points tank.minimum))) in
              omega (arith, ints, m, raise)),
          omega (arith, ints, h, one-within 864 (volume_at points tank.maximum)),
        ))
        (λ h l. placed-is Goal 1 bounds bounds line-level line-level
        (λ m g. absurd (short g))
        (λ m k g. (
          omega (arith, ints, k, raise, one-within line-level.den tank.minimum),
          omega (arith, ints, h, one-within 864 (volume_at points tank.maximum)),
        ))
        (λ m k g. (g, omega (arith, ints, h, one-within 864 (volume_at points tank.maximum)))))

    fallen-up : (t : ℤ) → tank.minimum <ℤ t → t <ℤ tank.maximum → line-level.num ≤ℤ (pos line-level.den *ℤ t)
        → parts <ℤ (pos 864 *ℤ volume_at points tank.maximum)
        → carried.num ≤ℤ (pos carried.den *ℤ t)
    fallen-up t over within low short =
        let bounds = level_bounds tank in
        let Goal = (λ (r : Rational). r.num ≤ℤ (pos r.den *ℤ t)) in
        let some = line-den in
        let apart = times_rises line-level.den (t +ℤ pos 1) tank.maximum (omega (arith, ints, within)) in
        placed-is Goal 1 (content_bounds (Curve points) tank) bounds exact (level_at_volume 1 points tank exact)
        (λ h. absurd (omega (arith, ints, h, short, one-within 864 (volume_at points tank.maximum))))
        (λ h l. omega (arith, ints, over, one_times tank.minimum, one_times t, one_times (pos 1 *ℤ tank.minimum)))
        (λ h l. placed-is Goal 1 bounds bounds line-level line-level
        (λ m. absurd (omega (
          arith,
          ints,
          m,
          low,
          apart,
          some,
          one-within line-level.den tank.maximum,
          times_plus
              line-level.den t (pos 1),
          times_one line-level.den,
        )))
        (λ m k. omega (arith, ints, over, one_times tank.minimum, one_times t, one_times (pos 1 *ℤ tank.minimum)))
        (λ m k. low))

    fallen-met : (t z : ℤ) → tank.minimum <ℤ t → t <ℤ tank.maximum
        → z ≡ int_min (floor (record {
          num = pos 864 *ℤ (value_at 1 (volume_knots points) t).num;
          den = (value_at 1 (volume_knots points) t).den;
        })) ((pos 864 *ℤ volume_at points tank.maximum) -ℤ pos 1)
        → IsTrue (has_reached 1 (Curve points) tank stock q false t seconds) ↔ (parts ≤ℤ z)
    fallen-met t z over within e = (
      (λ r. let b = below-yes 1 t carried (sym (falls-by-level t (inl over)) ∙ r) in
          let both = fallen-down t over within (omega (arith, ints, b, one-within carried.den t)) in
          let u = under-back t both.0 in
          let s = both.1 in
          omega (arith, ints, clamps, e, u, s)),
      (λ h. falls-by-level t (inl over) ∙ below-from 1 t carried
          (let u = under t (omega (arith, ints, clamps, e, h)) in
          let c = fallen-up t over within u (omega (arith, ints, clamps, e, h)) in
          omega (arith, ints, c, one-within carried.den t))),
    )

-- ---- targets that stand for levels

pub risen_always : (tank : Tank) (points : List VolumePoint) (t : ℤ) → IsBasin tank points → t ≤ℤ tank.minimum
    → StandsFor tank points t true Always
risen_always tank points t basin low = λ stock q seconds. (
  (λ r. tt),
  (λ m. risen-always tank points basin stock q seconds t low),
)

pub risen_never : (tank : Tank) (points : List VolumePoint) (t : ℤ) → IsBasin tank points → tank.maximum <ℤ t
    → StandsFor tank points t true Never
risen_never tank points t basin high = λ stock q seconds. (
  (λ r. risen-never tank points basin stock q seconds t high
      r),
  (λ m. absurd m),
)

pub risen_parts : (tank : Tank) (points : List VolumePoint) (t z : ℤ) → IsBasin tank points → tank.minimum <ℤ t
    → t ≤ℤ tank.maximum
    → z ≡ int_min (ceiling (record {
      num = pos 864 *ℤ (value_at 1 (volume_knots points) t).num;
      den = (value_at 1 (volume_knots points) t).den;
    })) (pos 864 *ℤ volume_at points tank.maximum)
    → StandsFor tank points t true (Parts z)
risen_parts tank points t z basin over within e = λ stock q seconds. risen-met tank points basin stock q seconds t z
    over within e

pub fallen_always : (tank : Tank) (points : List VolumePoint) (t : ℤ) → IsBasin tank points → tank.maximum ≤ℤ t
    → StandsFor tank points t false Always
fallen_always tank points t basin high = λ stock q seconds. (
  (λ r. tt),
  (λ m. fallen-always tank points basin stock q seconds t high),
)

pub fallen_never : (tank : Tank) (points : List VolumePoint) (t : ℤ) → IsBasin tank points → t <ℤ tank.minimum
    → StandsFor tank points t false Never
fallen_never tank points t basin low = λ stock q seconds. (
  (λ r. fallen-never tank points basin stock q seconds t low
      r),
  (λ m. absurd m),
)

pub fallen_bound : (tank : Tank) (points : List VolumePoint) (t z : ℤ) → IsBasin tank points → t ≡ tank.minimum
    → z ≡ pos 864 *ℤ volume_at points tank.minimum
    → StandsFor tank points t false (Parts z)
fallen_bound tank points t z basin same e = λ stock q seconds.
    let both = fallen-least tank points basin stock q seconds in
    subst (λ (y : ℤ). IsTrue (has_reached 1 (Curve points) tank stock q false y seconds) ↔
    (((pos 864 *ℤ stock.volume) +ℤ (pos seconds *ℤ q)) ≤ℤ z)) (sym same)
    (subst (λ (y : ℤ). IsTrue (has_reached 1 (Curve points) tank stock q false tank.minimum seconds) ↔
    (((pos 864 *ℤ stock.volume) +ℤ (pos seconds *ℤ q)) ≤ℤ y)) (sym e) both)

pub fallen_parts : (tank : Tank) (points : List VolumePoint) (t z : ℤ) → IsBasin tank points → tank.minimum <ℤ t
    → t <ℤ tank.maximum
    → z ≡ int_min (floor (record {
      num = pos 864 *ℤ (value_at 1 (volume_knots points) t).num;
      den = (value_at 1 (volume_knots points) t).den;
    })) ((pos 864 *ℤ volume_at points tank.maximum) -ℤ pos 1)
    → StandsFor tank points t false (Parts z)
fallen_parts tank points t z basin over within e = λ stock q seconds. fallen-met tank points basin stock q seconds t z
    over within e

-- ---- the code's targets

-- a bound's volume in parts
pub most_parts : (tank : Tank) (points : List VolumePoint) (volumes : Limits) (f r : ℤ)
    → AreVolumes tank points volumes → r ≡ to_z w128 (of_z w128 f) *ℤ to_z w64 (of_z w64 volumes.most) → f ≡ pos 864
    → r ≡ pos 864 *ℤ volume_at points tank.maximum
most_parts tank points volumes f r are e g =
    let range = are.range in
    start_is 864 f r volumes.most e g (omega arith) (let a = range.from in let b = range.apart in
    let k = range.up_to in omega (arith, ints, a, b, k))
    ∙ ap (λ (k : Bounds). pos 864 *ℤ k.most) are.value

pub least_parts : (tank : Tank) (points : List VolumePoint) (volumes : Limits) (f r : ℤ)
    → AreVolumes tank points volumes → r ≡ to_z w128 (of_z w128 f) *ℤ to_z w64 (of_z w64 volumes.least) → f ≡ pos 864
    → r ≡ pos 864 *ℤ volume_at points tank.minimum
least_parts tank points volumes f r are e g =
    let range = are.range in
    start_is 864 f r volumes.least e g (omega arith) (let a = range.from in let b = range.apart in
    let k = range.up_to in omega (arith, ints, a, b, k))
    ∙ ap (λ (k : Bounds). pos 864 *ℤ k.least) are.value

pub risen_code : (m : Mixed) (v : Rational) (r k z top : ℤ) → value_of m ≡ v → r ≡ ceiling (times_value 864 m)
    → k ≡ top → z ≡ int_min r k
    → z ≡ int_min (ceiling (record { num = pos 864 *ℤ v.num; den = v.den })) top
risen_code m v r k z top e f g h =
    h ∙ ap (λ (y : ℤ). int_min y k) (f ∙ ap (λ (x : Rational). ceiling (record {
      num = pos 864 *ℤ x.num;
      den = x.den;
    })) e)
    ∙ ap (λ (y : ℤ). int_min (ceiling (record { num = pos 864 *ℤ v.num; den = v.den })) y) g

pub fallen_code : (m : Mixed) (v : Rational) (r k z top : ℤ) → value_of m ≡ v → r ≡ floor (times_value 864 m)
    → k ≡ top → z ≡ int_min r k
    → z ≡ int_min (floor (record { num = pos 864 *ℤ v.num; den = v.den })) top
fallen_code m v r k z top e f g h =
    h ∙ ap (λ (y : ℤ). int_min y k) (f ∙ ap (λ (x : Rational). floor (record {
      num = pos 864 *ℤ x.num;
      den = x.den;
    })) e)
    ∙ ap (λ (y : ℤ). int_min (floor (record { num = pos 864 *ℤ v.num; den = v.den })) y) g

-- ---- first seconds

pub rises_met : (volume q need : ℤ) (parts : ℤ) (cap e : ℕ) → need ≡ parts -ℤ (pos 864 *ℤ volume)
    → IsFirstMeeting need q cap e → IsFirstMet volume q (Parts parts) true cap e
rises_met volume q need parts cap e same first =
    first_like (λ s. need ≤ℤ (pos s *ℤ q)) (λ s. parts ≤ℤ ((pos 864 *ℤ volume) +ℤ (pos s *ℤ q))) cap e
    (λ s some h. omega (arith, ints, h, same)) (λ s some h. omega (arith, ints, h, same)) first

pub falls_met : (volume q back need : ℤ) (parts : ℤ) (cap e : ℕ) → need ≡ (pos 864 *ℤ volume) -ℤ parts
    → back ≡ neg_ℤ q → IsFirstMeeting need back cap e
    → IsFirstMet volume q (Parts parts) false cap e
falls_met volume q back need parts cap e same turned first =
    first_like (λ s. need ≤ℤ (pos s *ℤ back)) (λ s. ((pos 864 *ℤ volume) +ℤ (pos s *ℤ q)) ≤ℤ parts) cap e
    (λ s some h. omega (arith, ints, h, same, speed s)) (λ s some h. omega (arith, ints, h, same, speed s)) first
  where
    speed : (s : ℕ) → pos s *ℤ back ≡ neg_ℤ (pos s *ℤ q)
    speed s = ap (λ (z : ℤ). pos s *ℤ z) turned ∙ times_neg s q

pub first_stands : (tank : Tank) (points : List VolumePoint) (level : ℤ) (rising : Bool) (target : Target)
    (stock : Stock) (q : ℤ) (cap e : ℕ) → StandsFor tank points level rising target
    → IsFirstMet stock.volume q target rising cap e → IsFirstSecond (has_reached 1 (Curve points) tank stock q rising
    level) cap e
first_stands tank points level rising target stock q cap e stands first =
    first_like (λ s. Meets rising target ((pos 864 *ℤ stock.volume) +ℤ (pos s *ℤ q)))
    (λ s. IsTrue (has_reached 1 (Curve points) tank stock q rising level s)) cap e
    (λ s some h. (stands stock q s).1 h) (λ s some h. (stands stock q s).0 h) first
