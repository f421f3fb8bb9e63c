use Rattle.hyd_curves.proofs.PumpAndValveCurveTestLemmas.{valve_right}
use Rattle.hyd_curves.proofs.valves.valve_fault.Goals as goal

pub returns : goal.returns
returns c =
    valve_right c.args.unit c.args.points.now c.if-points-lt2.false c.if-not-begins_at_0.ensures
    c.if-not-rise_in_turn.ensures
