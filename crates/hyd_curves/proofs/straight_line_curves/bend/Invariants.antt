use Rattle.std.proofs.Common.{◌≡◌, take}
use Rattle.hyd_num.specs.FileQuantity.{is_us_unit}
use Rattle.hyd_spec_input.specs.Curves as curve
use Rattle.hyd_curves.specs.Points.{points_in}
use Rattle.hyd_curves.proofs.straight_line_curves.bend.Given as goal

abbrev pub invariant-loop-point : goal.invariant-loop-point
invariant-loop-point l =
    l.list.list ≡ curve.head_points l.unit (is_us_unit l.unit) (points_in (take l.point-index l.points))
