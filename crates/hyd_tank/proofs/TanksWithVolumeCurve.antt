-- Tanks with a volume curve: the volumes at their bounds, and the levels that go with a volume.
use Rattle.std.proofs.Common.{◌≡◌, ℕ, ◌*◌, ◌<◌, ◌-◌, ℤ, pos, ◌*ℤ◌, ◌≤ℤ◌, List, length, slice_index_or, refl, sym, ap}
use Rattle.std.proofs.Common.{◌∙◌, arith}
use Rattle.std.specs.List.{HoldsAt}
use Rattle.std.specs.Int.{int_max, int_min}
use Rattle.std.proofs.lemmas.Int.{ints, clamps}
use Rattle.hyd_num.proofs.Integers.{times_rises, times_reflects, one_times}
use Rattle.hyd_num.specs.Rational.{Rational, floor, ceiling}
use Rattle.hyd_net.specs.Curves.{value_at, volume_at, volume_knots}
use Rattle.hyd_net.specs.NumberRanges.{Lies}
use Rattle.hyd_spec.specs.ProgramTypes.{Tank, VolumePoint}
use Rattle.hyd_spec.specs.Tank.{Curve, Bounds, placed, level_bounds, content_bounds, level_knots, level_on_curve}
use Rattle.hyd_spec.specs.Tank.{level_at}
use Rattle.hyd_spec_certificates.specs.Stocks.{end_of}
use Rattle.hyd_lemmas.proofs.Integers.{floor_low, floor_greatest, ceiling_high, ceiling_least, ceiling_whole}
use Rattle.hyd_lemmas.proofs.Integers.{floor_whole}
use Rattle.hyd_theorems_on_definitions.proofs.ValuesAtTwoScales.{one-within}
use Rattle.hyd_theorems_on_definitions.proofs.ValuesByContent.{placed-is}
use Rattle.hyd_tank.specs.declared.contents_of_tanks.Bounds.{Bounds as Limits}
use Rattle.hyd_tank.specs.declared.volume_curve.Known.TheVariants.{Level, Volume}
use Rattle.hyd_tank.specs.declared.volume_curve.Mixed.{Mixed}
use Rattle.hyd_tank.specs.Contents.{bounds_of, in_ticks, IsBetween}
use Rattle.hyd_tank.specs.CurveByLevelOrVolume.{knots_by, value_of, times_value, value_in, IsOnCurve, IsAtLeast}
use Rattle.hyd_tank.specs.CurveByLevelOrVolume.{IsAtMost}
use Rattle.hyd_tank.specs.StockIntervals.{IsBasin}
use Rattle.hyd_tank.specs.Targets.{AreVolumes}

-- ---- volumes at levels

pub on_curve_level : (tank : Tank) (points : List VolumePoint) (level x : ℤ) → IsBasin tank points
    → Lies tank.minimum tank.maximum level → x ≡ level → IsOnCurve Level 1 points x
on_curve_level tank points level x basin lies e = record {
  from_first = λ d. let a = basin.shape.from_minimum d in let b = lies.at_least in
      omega (arith, ints, a, b, e, one_times (slice_index_or points 0 d).level);
  to_last = λ d. let a = basin.shape.to_maximum d in let b = lies.at_most in
      omega (arith, ints, a, b, e, one_times (slice_index_or points (length points - 1) d).level);
}

pub volume_is : (points : List VolumePoint) (level x : ℤ) (m : Mixed) → x ≡ level
    → value_of m ≡ value_in 1 (knots_by Level points) x → value_of m ≡ value_at 1 (volume_knots points) level
volume_is points level x m f e =
    e ∙ ap (λ (d : ℕ). (let r : Rational = record {
      num = (value_at 1 (volume_knots points) x).num;
      den = d;
    } in r)) (let once : (value_at 1 (volume_knots points) x).den * 1
    ≡ (value_at 1 (volume_knots points) x).den = omega arith in once)
    ∙ ap (λ (z : ℤ). value_at 1 (volume_knots points) z) f

pub one_value : (m : Mixed) → times_value 1 m ≡ value_of m
one_value m = ap (λ (z : ℤ). (let r : Rational = record { num = z; den = m.of } in r)) (one_times (value_of m).num)

pub bounds_are : (a b x y : ℤ) → a ≡ x → b ≡ y → (let k : Bounds = record {
  least = a;
  most = b;
} in k) ≡ record { least = x; most = y }
bounds_are a b x y e f = rw (e, f) refl

pub volumes_are : (tank : Tank) (points : List VolumePoint) (m k : Mixed) (a b : ℤ) → IsBasin tank points → 0 < m.of
    → 0 < k.of
    → value_of m ≡ value_at 1 (volume_knots points) tank.minimum
    → value_of k ≡ value_at 1 (volume_knots points) tank.maximum
    → a ≡ floor (times_value 1 m) → b ≡ floor (times_value 1 k)
    → HoldsAt (λ (p : VolumePoint). IsAtLeast p.volume m) points 0
    → HoldsAt (λ (p : VolumePoint). IsAtMost p.volume k) points (length points - 1)
    → AreVolumes tank points (record { least = a; most = b })
volumes_are tank points m k a b basin ms ks em ek ea eb low high =
    let curve = basin.shape.curve in
    let two = curve.two in
    let none : VolumePoint = record { level = pos 0; volume = pos 0 } in
    let least : a ≡ volume_at points tank.minimum = ea ∙ ap floor (one_value m ∙ em) in
    let most : b ≡ volume_at points tank.maximum = eb ∙ ap floor (one_value k ∙ ek) in
    let af : a ≡ floor (value_of m) = ea ∙ ap floor (one_value m) in
    let bf : b ≡ floor (value_of k) = eb ∙ ap floor (one_value k) in
    let from : (d : VolumePoint) → (slice_index_or points 0 d).volume ≤ℤ a =
    (λ (d : VolumePoint). let g = floor_greatest (value_of m) (slice_index_or points 0 d).volume ms (low d) in
    omega (arith, ints, g, af)) in
    let to : (d : VolumePoint) → b ≤ℤ (slice_index_or points (length points - 1) d).volume =
    (λ (d : VolumePoint). let l = floor_low (value_of k) ks in let h = high d in
    let g = times_reflects k.of (floor (value_of k)) (slice_index_or points (length points - 1) d).volume ks
    (omega (arith, ints, l, h)) in omega (arith, ints, g, bf)) in
    let first = curve.volumes 0 none (omega (arith, two)) in
    let last = curve.volumes (length points - 1) none (omega (arith, two)) in
    let f = from none in
    let t = to none in
    let fl = first.at_least in
    let lm = last.at_most in
    let apart = basin.shape.apart in
    record {
      value = bounds_are a b (volume_at points tank.minimum) (volume_at points tank.maximum) least most;
      range = record {
        from = omega (arith, ints, f, fl);
        apart = omega (arith, ints, apart, least, most);
        up_to = omega (arith, ints, t, lm);
      };
      from_first = from;
      to_last = to;
    }

-- ---- levels at volumes

pub on_curve_volume : (tank : Tank) (points : List VolumePoint) (volumes : Limits) (scale : ℕ) (parts : ℤ)
    → AreVolumes tank points volumes
    → IsBetween (bounds_of volumes) (record { num = parts; den = scale }) → IsOnCurve Volume scale points parts
on_curve_volume tank points volumes scale parts are between = record {
  from_first = λ d. let l = times_rises scale (slice_index_or points 0 d).volume volumes.least (are.from_first d) in
      let h = between.above_least in omega (arith, ints, l, h);
  to_last = λ d. let l = times_rises scale volumes.most (slice_index_or points (length points - 1) d).volume
      (are.to_last d) in let h = between.below_most in omega (arith, ints, l, h);
}

pub level_is : (scale : ℕ) (points : List VolumePoint) (parts x : ℤ) (m : Mixed) → x ≡ parts
    → value_of m ≡ value_in scale (knots_by Volume points) x
    → value_of m ≡ level_on_curve 1 points (record { num = parts; den = scale })
level_is scale points parts x m f e =
    e ∙ ap (λ (z : ℤ). value_in scale (knots_by Volume points) z) f
    ∙ ap (λ (k : ℕ). (let r : Rational = record {
      num = (value_at k (level_knots points) parts).num;
      den = (value_at k (level_knots points) parts).den * scale;
    } in r))
    (let once : scale ≡ 1 * scale = omega arith in once)

-- a value held between its bounds is rounded to the rounded value held between them
pub floor_placed : (bounds : Bounds) (x : Rational) → 0 < x.den → bounds.least ≤ℤ bounds.most
    → floor (placed 1 bounds bounds x x) ≡ int_max bounds.least (int_min (floor x) bounds.most)
floor_placed bounds x some order =
    let low = floor_low x some in
    placed-is (λ (r : Rational). floor r ≡ int_max bounds.least (int_min (floor x) bounds.most)) 1 bounds bounds x x
    (λ h. let g = floor_greatest x bounds.most some (omega (arith, ints, h, one-within x.den bounds.most)) in
    let w = floor_whole (pos 1 *ℤ bounds.most) in omega (arith, ints, clamps, g, w, one_times bounds.most, order))
    (λ s h. let g = times_reflects x.den (floor x) bounds.least some
    (omega (arith, ints, low, h, one-within x.den bounds.least)) in
    let w = floor_whole (pos 1 *ℤ bounds.least) in omega (arith, ints, clamps, g, w, one_times bounds.least, order))
    (λ s h. let g = floor_greatest x bounds.least some (omega (arith, ints, h, one-within x.den bounds.least)) in
    let k = times_reflects x.den (floor x) bounds.most some (omega
    (arith, ints, low, s, one-within x.den bounds.most)) in omega (arith, ints, clamps, g, k, order))

pub ceiling_placed : (bounds : Bounds) (x : Rational) → 0 < x.den → bounds.least ≤ℤ bounds.most
    → ceiling (placed 1 bounds bounds x x) ≡ int_max bounds.least (int_min (ceiling x) bounds.most)
ceiling_placed bounds x some order =
    let high = ceiling_high x some in
    placed-is (λ (r : Rational). ceiling r ≡ int_max bounds.least (int_min (ceiling x) bounds.most)) 1 bounds bounds x x
    (λ h. let g = times_reflects x.den bounds.most (ceiling x) some
    (omega (arith, ints, high, h, one-within x.den bounds.most)) in
    let w = ceiling_whole (pos 1 *ℤ bounds.most) in omega (arith, ints, clamps, g, w, one_times bounds.most, order))
    (λ s h. let g = ceiling_least x bounds.least some (omega (arith, ints, h, one-within x.den bounds.least)) in
    let w = ceiling_whole (pos 1 *ℤ bounds.least) in omega (arith, ints, clamps, g, w, one_times bounds.least, order))
    (λ s h. let g = ceiling_least x bounds.most some (omega (arith, ints, s, one-within x.den bounds.most)) in
    let k = times_reflects x.den bounds.least (ceiling x) some
    (omega (arith, ints, high, h, one-within x.den bounds.least)) in omega (arith, ints, clamps, g, k, order))

-- an end by the code's bounds, breadth and parts
pub end_along : (tank : Tank) (points : List VolumePoint) (volumes range : Limits) (scale : ℕ) (parts b p i : ℤ)
    → AreVolumes tank points volumes → bounds_of range ≡ level_bounds tank
    → b ≡ pos scale → p ≡ parts
    → end_of (bounds_of volumes) (bounds_of range) (in_ticks b p) i ≡ end_of (content_bounds (Curve points) tank)
    (level_bounds tank) (record { num = parts; den = scale }) i
end_along tank points volumes range scale parts b p i are levels e f =
    ap (λ (k : Bounds). end_of k (bounds_of range) (in_ticks b p) i) are.value
    ∙ ap (λ (k : Bounds). end_of (content_bounds (Curve points) tank) k (in_ticks b p) i) levels
    ∙ ap (λ (z : ℤ). end_of (content_bounds (Curve points) tank) (level_bounds tank) (in_ticks z p) i) e
    ∙ ap (λ (z : ℤ). end_of (content_bounds (Curve points) tank) (level_bounds tank) (in_ticks (pos scale) z) i) f

-- the rounded level that goes with a volume
module _ (tank : Tank) (points : List VolumePoint) (scale : ℕ) (parts x r : ℤ) (m : Mixed)
    (order : tank.minimum ≤ℤ tank.maximum) (some : 0 < m.of)
    (e : x ≡ parts) (value : value_of m ≡ value_in scale (knots_by Volume points) x) where
  same-den : m.of ≡ (level_on_curve 1 points (record { num = parts; den = scale })).den
  same-den = ap (λ (y : Rational). y.den) (level_is scale points parts x m e value)

  pub floor_level : r ≡ floor (times_value 1 m)
      → floor (level_at 1 (Curve points) tank (record {
        num = parts;
        den = scale;
      })) ≡ int_max tank.minimum (int_min r tank.maximum)
  floor_level f =
      floor_placed (level_bounds tank) (level_on_curve 1 points (record {
        num = parts;
        den = scale;
      })) (let d = same-den in omega (arith, d, some)) order
      ∙ ap (λ (z : ℤ). int_max tank.minimum (int_min z tank.maximum))
      (sym (f ∙ ap floor (one_value m ∙ level_is scale points parts x m e value)))

  pub ceiling_level : r ≡ ceiling (times_value 1 m)
      → ceiling (level_at 1 (Curve points) tank (record {
        num = parts;
        den = scale;
      })) ≡ int_max tank.minimum (int_min r tank.maximum)
  ceiling_level f =
      ceiling_placed (level_bounds tank) (level_on_curve 1 points (record {
        num = parts;
        den = scale;
      })) (let d = same-den in omega (arith, d, some)) order
      ∙ ap (λ (z : ℤ). int_max tank.minimum (int_min z tank.maximum))
      (sym (f ∙ ap ceiling (one_value m ∙ level_is scale points parts x m e value)))
