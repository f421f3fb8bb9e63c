use Rattle.hyd_num.specs.FileQuantity.{is_us_unit}
use Rattle.hyd_spec_input.specs.Curves.{is_faster, head_point}
use Rattle.hyd_curves.specs.PumpAndValveCurveTests.{loss_passes}
use Rattle.hyd_curves.proofs.ItemsInTurnLemmas.{turned, stopped}
use Rattle.hyd_curves.proofs.valves.rise_in_turn.Goals as goal

pub loop-point-preserved : goal.loop-point-preserved
loop-point-preserved c =
    turned loss_passes is_faster (head_point c.args.unit (is_us_unit c.args.unit)) c.args.points.now
    c.loop-point.left.now
    c.in-Some.rest.now c.in-Some.point.now c.in-Some.ensures.cases.0 c.if-not-passes.ensures c.loop-point.invariant

pub returns-then-not-passes : goal.returns-then-not-passes
returns-then-not-passes c =
    stopped loss_passes is_faster (head_point c.args.unit (is_us_unit c.args.unit)) c.args.points.now
    c.loop-point.left.now c.in-Some.rest.now c.in-Some.point.now c.in-Some.ensures.cases.0 c.if-not-passes.ensures
    c.loop-point.invariant
