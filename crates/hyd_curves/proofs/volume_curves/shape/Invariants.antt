use Rattle.std.proofs.Common.{◌≡◌, take}
use Rattle.hyd_spec_input.specs.Curves as curve
use Rattle.hyd_curves.specs.Points.{points_in}
use Rattle.hyd_curves.proofs.volume_curves.shape.Given as goal

abbrev pub invariant-loop-point : goal.invariant-loop-point
invariant-loop-point l = l.list.list ≡ curve.volume_points l.us (points_in (take l.point-index l.points))
