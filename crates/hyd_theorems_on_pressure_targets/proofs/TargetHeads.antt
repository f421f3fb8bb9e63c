-- A head beyond the whole ticks around a target pressure.
use Rattle.std.proofs.Common.{◌≡◌, ℕ, ◌<◌, ℤ, pos, ◌+ℤ◌, ◌-ℤ◌, ◌*ℤ◌, ◌<ℤ◌, arith}
use Rattle.std.proofs.lemmas.Int.{ints}
use Rattle.std.proofs.Math.IntN.{*ℤ_comm}
use Rattle.hyd_num.specs.Rational.{Rational, floor, ceiling}
use Rattle.hyd_spec.specs.Scale.{at_scale}
use Rattle.hyd_spec_pressure_targets.specs.TargetHeads.{target_low, target_high, IsAboveTarget, IsBelowTarget}
use Rattle.hyd_num.proofs.Integers.{times_plus, times_rises}
use Rattle.hyd_lemmas.proofs.Integers.{exchanged, floor_low, ceiling_high}
use Rattle.hyd_lemmas.proofs.BooleanTests.{lt-from}

-- less, times a number above 0
times-less : (d : ℕ) (a b : ℤ) → 0 < d → a <ℤ b → (pos d *ℤ a) <ℤ (pos d *ℤ b)
times-less d a b some less =
    let l = times_rises d (a +ℤ pos 1) b (omega (arith, ints, less)) in
    let one : pos d *ℤ pos 1 ≡ pos d = omega (arith, ints) in
    omega (arith, ints, l, times_plus d a (pos 1), one, some)

pub above-target : (S : ℕ) (elevation : ℤ) (target : Rational) (h : ℤ) → 0 < target.den
    → at_scale S (target_high elevation target) <ℤ h → IsAboveTarget S elevation target h
above-target S elevation target h some beyond = lt-from (target.num *ℤ pos S)
    ((h -ℤ at_scale S elevation) *ℤ pos target.den)
    (let a = times_rises S target.num (pos target.den *ℤ ceiling target) (ceiling_high target some) in
    let b = times-less target.den (pos S *ℤ ceiling target) (h -ℤ at_scale S elevation) some
    (omega (arith, ints, beyond, times_plus S elevation (ceiling target))) in
    omega (
      arith,
      ints,
      a,
      b,
      *ℤ_comm target.num (pos S),
      *ℤ_comm (h -ℤ at_scale S elevation) (pos target.den),
      exchanged S target.den (ceiling target),
    ))

pub below-target : (S : ℕ) (elevation : ℤ) (target : Rational) (h : ℤ) → 0 < target.den
    → h <ℤ at_scale S (target_low elevation target) → IsBelowTarget S elevation target h
below-target S elevation target h some short = lt-from ((h -ℤ at_scale S elevation) *ℤ pos target.den)
    (target.num *ℤ pos S)
    (let a = times_rises S (pos target.den *ℤ floor target) target.num (floor_low target some) in
    let b = times-less target.den (h -ℤ at_scale S elevation) (pos S *ℤ floor target) some
    (omega (arith, ints, short, times_plus S elevation (floor target))) in
    omega (
      arith,
      ints,
      a,
      b,
      *ℤ_comm target.num (pos S),
      *ℤ_comm (h -ℤ at_scale S elevation) (pos target.den),
      exchanged S target.den (floor target),
    ))
