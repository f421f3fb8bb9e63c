use Rattle.std.proofs.Common.{◌≡◌, to_z, of_z, w64, ap, ◌∙◌, arith}
use Rattle.std.specs.Int.{w128}
use Rattle.std.proofs.lemmas.Int.{ints, to_z-of_z}
use Rattle.hyd_spec.specs.DemandsHeadsAndPumpLifts.{lift_of}
use Rattle.hyd_spec_witnesses.specs.EnclosingFunctionsAtScale.{quadratic_low_at, quadratic_high_at}
use Rattle.hyd_laws_at_scale.specs.Scales.{parts_of}
use Rattle.hyd_laws_at_scale.proofs.ComposedWindows.{lifted_window}
use Rattle.hyd_laws_at_scale.proofs.simple_windows.pumped.Goals as goal

pub returns : goal.returns
returns c =
    let l = c.args.law.now in
    let S = parts_of c.args.scale in
    let lo : to_z w128 (of_z w128 c.args.law.now.lift.lo) ≡ c.args.law.now.lift.lo =
    omega (arith, ints, c.requires.low) in
    let hi : to_z w128 (of_z w128 c.args.law.now.lift.hi) ≡ c.args.law.now.lift.hi =
    omega (arith, ints, c.requires.high) in
    let d = to_z-of_z w64 c.args.d c.ranges.d in
    let a = rw (lo, d) at c.in_ok-low.ensures.some in
    let b = rw (hi, d) at c.in_ok-high.ensures.some in
    let low : to_z w64 (of_z w64 c.in_ok-low.low) ≡ c.in_ok-low.low = omega (arith, ints, a.0, a.1) in
    let high : to_z w64 (of_z w64 c.in_ok-high.high) ≡ c.in_ok-high.high = omega (arith, ints, b.0, b.1) in
    lifted_window S (lift_of l.us l.head l.speed) l.lift l.inner.cap c.args.d c.in_ok-low.low c.in_ok-high.high
    c.window_of.result c.requires.lift c.requires.difference a.0 a.1 b.0 b.1 (c.if-not-fits.ensures.yes)
    (c.window_of.ensures.low
    ∙ (to_z-of_z w128 c.quadratic_low.result (record { sfits = c.quadratic_low.type_inv })
    ∙ (c.quadratic_low.ensures.value ∙ ap (quadratic_low_at S l.inner.cap) low)))
    (c.window_of.ensures.high
    ∙ (to_z-of_z w128 c.quadratic_high.result (record { sfits = c.quadratic_high.type_inv })
    ∙ (c.quadratic_high.ensures.value ∙ ap (quadratic_high_at S l.inner.cap) high)))
