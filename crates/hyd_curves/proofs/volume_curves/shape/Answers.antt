use Rattle.std.proofs.Common.{arith}
use Rattle.hyd_curves.proofs.VolumeCurveLemmas.{small_at}
use Rattle.hyd_curves.proofs.volume_curves.shape.Goals as goal

pub shape_point-requires : goal.shape_point-requires
shape_point-requires c =
    small_at c.args.us c.args.points.now c.loop-point.point-index c.point-item.result c.requires (omega arith)
    c.point-item.is
