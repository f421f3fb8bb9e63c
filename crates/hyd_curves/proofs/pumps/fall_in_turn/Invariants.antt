use Rattle.std.proofs.Common.{◌≡◌, length}
use Rattle.hyd_spec_input.specs.Curves.{has_flow, is_slower, head_points}
use Rattle.hyd_num.specs.FileQuantity.{is_us_unit}
use Rattle.hyd_curves.specs.Points.{points_in}
use Rattle.hyd_curves.specs.EachWithNext.{all_in_turn}
use Rattle.hyd_curves.proofs.pumps.fall_in_turn.Given as goal

abbrev pub invariant-loop-point : goal.invariant-loop-point
invariant-loop-point l =
    all_in_turn has_flow is_slower (head_points l.unit (is_us_unit l.unit) (points_in l.left))
    ≡ all_in_turn has_flow is_slower (head_points l.unit (is_us_unit l.unit) (points_in l.points))

abbrev pub decreases-loop-point : goal.decreases-loop-point
decreases-loop-point l = length l.left
