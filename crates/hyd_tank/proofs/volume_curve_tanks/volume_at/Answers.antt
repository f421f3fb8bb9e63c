use Rattle.std.proofs.Common.{arith, to_z, of_z}
use Rattle.std.specs.Int.{w128}
use Rattle.std.proofs.lemmas.Int.{ints}
use Rattle.hyd_tank.proofs.TanksWithVolumeCurve.{on_curve_level, volume_is}
use Rattle.hyd_tank.proofs.volume_curve_tanks.volume_at.Goals as goal

pub value_at-requires-clause-on_curve : goal.value_at-requires-clause-on_curve
value_at-requires-clause-on_curve c =
    on_curve_level c.args.tank.now c.args.points.now c.args.level (to_z w128 (of_z w128 c.from.result))
    c.requires.tank c.requires.level (omega (arith, ints))

pub returns-clause-value : goal.returns-clause-value
returns-clause-value c =
    volume_is c.args.points.now c.args.level (to_z w128 (of_z w128 c.from.result)) c.value_at.result
    (omega (arith, ints)) c.value_at.ensures.value

pub returns-clause-small : goal.returns-clause-small
returns-clause-small c = λ times few. c.value_at.ensures.small times (omega arith)
