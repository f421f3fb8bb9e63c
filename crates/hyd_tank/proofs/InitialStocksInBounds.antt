-- The stocks with which a run begins lie within their tank's bounds.
use Rattle.std.proofs.Common.{ℤ, pos, ◌≤ℤ◌, ◌<ℤ◌, List, [], ◌∷◌, arith}
use Rattle.std.specs.Prelude.{map}
use Rattle.std.proofs.lemmas.Int.{ints}
use Rattle.hyd_num.specs.Rational.{floor}
use Rattle.hyd_net.specs.Curves.{Knot, AreRising, value_at, volume_at, volume_knots}
use Rattle.hyd_net.specs.NumberRanges.{Lies}
use Rattle.hyd_spec.specs.ProgramTypes.{Tank, VolumePoint}
use Rattle.hyd_spec.specs.Tank.{Walls, Cylinder, Curve, level_bounds}
use Rattle.hyd_spec_certificates.specs.Interval.{exactly}
use Rattle.hyd_num.proofs.Integers.{one_times}
use Rattle.hyd_lemmas.proofs.Integers.{floor_low, floor_greatest}
use Rattle.hyd_theorems_on_definitions.specs.LyingInIntervals.{IsWithin}
use Rattle.hyd_theorems_on_definitions.specs.SoundTanks.{IsVessel, HoldWater}
use Rattle.hyd_theorems_on_definitions.proofs.ValuesAtTwoScales.{above-too}
use Rattle.hyd_theorems_on_definitions.proofs.StocksInIntervals.{pairs-tail}
use Rattle.hyd_theorems_on_definitions.proofs.RisingLines.{AreClimbing, from-rises, some-den}
use Rattle.hyd_tank.specs.StockIntervals.{initial_stocks, AreHeld}

climbing : (p : VolumePoint) (points : List VolumePoint) → AreRising (map (λ (q : VolumePoint). q.level) (p ∷ points))
    → AreRising (map (λ (q : VolumePoint). q.volume) (p ∷ points))
    → AreClimbing (record { place = p.level; value = p.volume }) (volume_knots points)
climbing p [] levels volumes = tt
climbing p (q ∷ points) levels volumes = (
  record {
    later = let l = levels 0 1 (pos 0) (omega arith) (omega arith) in omega (arith, ints, l);
    higher = let l = volumes 0 1 (pos 0) (omega arith) (omega arith) in omega (arith, ints, l);
  },
  climbing q points (pairs-tail (λ a b. a <ℤ b) p.level (map (λ (q : VolumePoint). q.level) (q ∷ points)) levels)
      (pairs-tail (λ a b. a <ℤ b) p.volume (map (λ (q : VolumePoint). q.volume) (q ∷ points)) volumes),
)

-- the volume of a curve doesn't fall with the level
volume-rises : (points : List VolumePoint) (x y : ℤ) → HoldWater (Curve points) → x ≤ℤ y
    → volume_at points x ≤ℤ volume_at points y
volume-rises [] x y holds le = omega (arith, ints)
volume-rises (p ∷ points) x y holds le =
    let knot : Knot = record { place = p.level; value = p.volume } in
    let r = value_at 1 (volume_knots (p ∷ points)) x in
    let s = value_at 1 (volume_knots (p ∷ points)) y in
    let up = from-rises 1 1 knot (volume_knots points) x y (omega arith) (climbing p points holds.0 holds.1)
    (omega (arith, ints, le, one_times x, one_times y)) in
    let r-some = some-den 1 knot (volume_knots points) x in
    let s-some = some-den 1 knot (volume_knots points) y in
    floor_greatest s (floor r) s-some (above-too (floor r) r s r-some up (floor_low r r-some))

initial-level : (tank : Tank) → Lies tank.minimum tank.maximum tank.initial
    → IsWithin (level_bounds tank) (exactly tank.initial)
initial-level tank lies = record {
  lo_above = lies.at_least;
  lo_below = lies.at_most;
  hi_above = lies.at_least;
  hi_below = lies.at_most;
}

pub initial_held : (walls : Walls) (tank : Tank) → IsVessel walls tank → Lies tank.minimum tank.maximum tank.initial
    → AreHeld walls tank (initial_stocks walls tank)
initial_held (Cylinder area) tank vessel lies = record {
  level = initial-level tank lies;
  volume = record {
    lo_above = omega (arith, ints);
    lo_below = omega (arith, ints);
    hi_above = omega (arith, ints);
    hi_below = omega (arith, ints);
  };
}
initial_held (Curve points) tank vessel lies =
    let low = volume-rises points tank.minimum tank.initial vessel.holds_water lies.at_least in
    let high = volume-rises points tank.initial tank.maximum vessel.holds_water lies.at_most in
    record {
      level = initial-level tank lies;
      volume = record { lo_above = low; lo_below = high; hi_above = low; hi_below = high };
    }
