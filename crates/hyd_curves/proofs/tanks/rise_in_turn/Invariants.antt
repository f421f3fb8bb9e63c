use Rattle.std.proofs.Common.{◌≡◌, length}
use Rattle.hyd_spec_input.specs.Curves.{is_fuller, volume_points}
use Rattle.hyd_curves.specs.Points.{points_in}
use Rattle.hyd_curves.specs.TankCurveTests.{level_passes}
use Rattle.hyd_curves.specs.EachWithNext.{all_in_turn}
use Rattle.hyd_curves.proofs.tanks.rise_in_turn.Given as goal

abbrev pub invariant-loop-point : goal.invariant-loop-point
invariant-loop-point l =
    all_in_turn level_passes is_fuller (volume_points l.us (points_in l.left))
    ≡ all_in_turn level_passes is_fuller (volume_points l.us (points_in l.points))

abbrev pub decreases-loop-point : goal.decreases-loop-point
decreases-loop-point l = length l.left
