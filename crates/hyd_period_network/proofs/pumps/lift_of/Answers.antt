use Rattle.std.proofs.Common.{pos, ◌*ℤ◌, to_z, of_z, w64, arith}
use Rattle.std.specs.Int.{w128}
use Rattle.std.proofs.lemmas.Int.{ints}
use Rattle.hyd_spec.specs.DemandsHeadsAndPumpLifts.{lift_of}
use Rattle.hyd_period_network.proofs.PumpLifts.{lift_value}
use Rattle.hyd_period_network.proofs.pumps.lift_of.Goals as goal

pub returns-clause-rounded : goal.returns-clause-rounded
returns-clause-rounded c =
    let n = c.shutoff_head-numerator in
    c.rounded.ensures.rounded (lift_of c.args.us c.args.head.now c.args.speed)
    (lift_value c.args.us c.args.head.now c.args.speed (to_z w128 (of_z w128 c.squared_times.result))
    (to_z w128 (of_z w128 (pos 1000000000000000000 *ℤ to_z w128 (of_z w128 c.shutoff_head-numerator.result.1))))
    c.squared_times.result (to_z w64 (of_z w64 c.args.speed)) (to_z w128 (of_z w128 c.shutoff_head-numerator.result.0))
    (omega (arith, ints)) c.squared_times.ensures.value (omega (arith, ints))
    (omega (arith, ints, c.shutoff_head-numerator.ensures.numerator, c.shutoff_head-numerator.ensures.small))
    (omega (arith, ints, c.shutoff_head-numerator.ensures.denominator, c.shutoff_head-numerator.ensures.thirds))
    c.shutoff_head-numerator.ensures.above)
