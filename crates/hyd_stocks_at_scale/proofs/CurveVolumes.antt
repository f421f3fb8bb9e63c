-- Tanks with a volume curve: the volumes at their bounds, and where levels and volumes lie on the curve.
use Rattle.std.proofs.Common.{◌≡◌, ℕ, ◌<◌, ◌-◌, ℤ, pos, ◌*ℤ◌, ◌≤ℤ◌, List, length, slice_index_or, refl, sym, ap, ◌∙◌}
use Rattle.std.proofs.Common.{arith, subst}
use Rattle.std.specs.List.{HoldsAt}
use Rattle.std.proofs.lemmas.Int.{ints}
use Rattle.hyd_num.proofs.Integers.{times_rises, times_reflects, one_times}
use Rattle.hyd_num.specs.Rational.{Rational, floor}
use Rattle.hyd_net.specs.Curves.{value_at, volume_at, volume_knots}
use Rattle.hyd_net.specs.NumberRanges.{Lies}
use Rattle.hyd_spec.specs.ProgramTypes.{Tank, VolumePoint}
use Rattle.hyd_spec.specs.Tank.{Bounds}
use Rattle.hyd_lemmas.proofs.Integers.{floor_low, floor_greatest}
use Rattle.hyd_theorems_on_definitions.proofs.ValuesAtTwoScales.{one-within}
use Rattle.hyd_tank.specs.StockIntervals.{IsBasin}
use Rattle.hyd_stocks_at_scale.specs.declared.contents.Bounds.{Bounds as Limits}
use Rattle.hyd_stocks_at_scale.specs.declared.volume_curve.Known.TheVariants.{Level, Volume}
use Rattle.hyd_stocks_at_scale.specs.declared.volume_curve.Mixed.{Mixed}
use Rattle.hyd_stocks_at_scale.specs.Contents.{AreVolumes}
use Rattle.hyd_stocks_at_scale.specs.VolumeCurves.{knots_by, value_of, times_value, IsOnCurve, IsAtLeast, IsAtMost}

pub on_curve_level : (tank : Tank) (points : List VolumePoint) (level x : ℤ) → IsBasin tank points
    → Lies tank.minimum tank.maximum level → x ≡ level → IsOnCurve Level 1 points x
on_curve_level tank points level x basin lies e = record {
  from_first = λ d. let a = basin.shape.from_minimum d in let b = lies.at_least in
      omega (arith, ints, a, b, e, one_times (slice_index_or points 0 d).level);
  to_last = λ d. let a = basin.shape.to_maximum d in let b = lies.at_most in
      omega (arith, ints, a, b, e, one_times (slice_index_or points (length points - 1) d).level);
}

pub volume_is : (points : List VolumePoint) (level x : ℤ) (m : Mixed) → x ≡ level
    → value_of m ≡ value_at 1 (knots_by Level points) x → value_of m ≡ value_at 1 (volume_knots points) level
volume_is points level x m f e = e ∙ ap (λ (z : ℤ). value_at 1 (volume_knots points) z) f

pub one_value : (m : Mixed) → times_value 1 m ≡ value_of m
one_value m = ap (λ (z : ℤ). (let r : Rational = record { num = z; den = m.of } in r)) (one_times (value_of m).num)

bounds-are : (a b x y : ℤ) → a ≡ x → b ≡ y → (let k : Bounds = record {
  least = a;
  most = b;
} in k) ≡ record { least = x; most = y }
bounds-are a b x y e f = rw (e, f) refl

pub volumes_are : (tank : Tank) (points : List VolumePoint) (m k : Mixed) (a b : ℤ) → IsBasin tank points → 0 < m.of
    → 0 < k.of
    → value_of m ≡ value_at 1 (volume_knots points) tank.minimum
    → value_of k ≡ value_at 1 (volume_knots points) tank.maximum
    → a ≡ floor (times_value 1 m) → b ≡ floor (times_value 1 k)
    → HoldsAt (λ (p : VolumePoint). IsAtLeast 1 p.volume m) points 0
    → HoldsAt (λ (p : VolumePoint). IsAtMost 1 p.volume k) points (length points - 1)
    → AreVolumes tank points (record { least = a; most = b })
volumes_are tank points m k a b basin ms ks em ek ea eb low high =
    let curve = basin.shape.curve in
    let two = curve.two in
    let none : VolumePoint = record { level = pos 0; volume = pos 0 } in
    let least : a ≡ volume_at points tank.minimum = ea ∙ ap floor (one_value m ∙ em) in
    let most : b ≡ volume_at points tank.maximum = eb ∙ ap floor (one_value k ∙ ek) in
    let af : a ≡ floor (value_of m) = ea ∙ ap floor (one_value m) in
    let bf : b ≡ floor (value_of k) = eb ∙ ap floor (one_value k) in
    let from : (d : VolumePoint) → (slice_index_or points 0 d).volume ≤ℤ a =
    (λ (d : VolumePoint). let v = (slice_index_or points 0 d).volume in let l = low d in
    let g = floor_greatest (value_of m) v ms (omega (arith, ints, l, one-within m.of v)) in
    omega (arith, ints, g, af)) in
    let to : (d : VolumePoint) → b ≤ℤ (slice_index_or points (length points - 1) d).volume =
    (λ (d : VolumePoint). let v = (slice_index_or points (length points - 1) d).volume in
    let l = floor_low (value_of k) ks in let h = high d in
    let g = times_reflects k.of (floor (value_of k)) v ks (omega (arith, ints, l, h, one-within k.of v)) in
    omega (arith, ints, g, bf)) in
    let first = curve.volumes 0 none (omega (arith, two)) in
    let last = curve.volumes (length points - 1) none (omega (arith, two)) in
    let f = from none in
    let t = to none in
    let fl = first.at_least in
    let lm = last.at_most in
    let apart = basin.shape.apart in
    record {
      value = bounds-are a b (volume_at points tank.minimum) (volume_at points tank.maximum) least most;
      range = record {
        from = omega (arith, ints, f, fl);
        apart = omega (arith, ints, apart, least, most);
        up_to = omega (arith, ints, t, lm);
      };
      from_first = from;
      to_last = to;
    }

pub on_curve_volume : (tank : Tank) (points : List VolumePoint) (volumes : Limits) (scale : ℕ) (x : ℤ)
    → AreVolumes tank points volumes → (pos scale *ℤ volumes.least) ≤ℤ x → x ≤ℤ (pos scale *ℤ volumes.most)
    → IsOnCurve Volume scale points x
on_curve_volume tank points volumes scale x are low high = record {
  from_first = λ d. let l = times_rises scale (slice_index_or points 0 d).volume volumes.least (are.from_first d) in
      omega (arith, ints, l, low);
  to_last = λ d. let l = times_rises scale volumes.most (slice_index_or points (length points - 1) d).volume
      (are.to_last d) in omega (arith, ints, l, high);
}

-- the same bounds by equal numbers
pub volumes_along : (tank : Tank) (points : List VolumePoint) (a b x y : ℤ) → x ≡ a → y ≡ b
    → AreVolumes tank points (record { least = a; most = b }) → AreVolumes tank points (record { least = x; most = y })
volumes_along tank points a b x y e f are =
    subst (λ (z : ℤ). AreVolumes tank points (record { least = x; most = z })) (sym f)
    (subst (λ (z : ℤ). AreVolumes tank points (record { least = z; most = b })) (sym e) are)

-- so many times the volume at a level
pub times_is : (t T : ℕ) (m : Mixed) (v : Rational) → t ≡ T → value_of m ≡ v
    → times_value t m ≡ record { num = pos T *ℤ v.num; den = v.den }
times_is t T m v e f =
    ap (λ (n : ℕ). times_value n m) e
    ∙ ap (λ (r : Rational). (let x : Rational = record { num = pos T *ℤ r.num; den = r.den } in x)) f
