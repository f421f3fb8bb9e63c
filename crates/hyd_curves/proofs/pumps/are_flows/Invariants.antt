use Rattle.std.proofs.Common.{◌≡◌, length}
use Rattle.hyd_spec_input.specs.Curves as curve
use Rattle.hyd_curves.specs.Points.{points_in}
use Rattle.hyd_curves.proofs.pumps.are_flows.Given as goal

abbrev pub invariant-loop-point : goal.invariant-loop-point
invariant-loop-point l = curve.are_flows l.unit (points_in l.left) ≡ curve.are_flows l.unit (points_in l.points)

abbrev pub decreases-loop-point : goal.decreases-loop-point
decreases-loop-point l = length l.left
