use Rattle.std.proofs.Common.{sym, ◌∙◌}
use Rattle.std.specs.Int.{w128}
use Rattle.std.proofs.lemmas.Int.{to_z-of_z}
use Rattle.hyd_curves.proofs.TankCurveTestLemmas.{all_but_room, two_points}
use Rattle.hyd_curves.proofs.tanks.is_shape.Goals as goal

pub returns : goal.returns
returns c =
    rw (to_z-of_z w128 c.args.minimum c.ranges.minimum, to_z-of_z w128 c.args.maximum c.ranges.maximum)
    at c.has_room.ensures
    ∙ all_but_room _ _ _ _ _ (two_points c.args.us c.args.points.now c.if-points-lt2.false)
    (sym c.if-not-rise_in_turn.ensures)
    (rw (to_z-of_z w128 c.args.minimum c.ranges.minimum, to_z-of_z w128 c.args.maximum c.ranges.maximum)
    at (sym c.if-not-spans.ensures))
