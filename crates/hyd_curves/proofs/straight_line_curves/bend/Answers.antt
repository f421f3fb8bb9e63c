use Rattle.std.proofs.Common.{arith}
use Rattle.hyd_curves.proofs.StraightLineCurveLemmas.{small_at}
use Rattle.hyd_curves.proofs.straight_line_curves.bend.Goals as goal

pub bend_point-requires : goal.bend_point-requires
bend_point-requires c =
    small_at c.args.unit c.args.points.now c.loop-point.point-index c.point-item.result c.requires (omega arith)
    c.point-item.is
