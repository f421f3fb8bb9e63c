use Rattle.std.proofs.Common.{◌∙◌}
use Rattle.std.proofs.lemmas.Slice.Eq.{slice_eq-Decides}
use Rattle.hyd_tests_on_tanks_and_demands.proofs.Points.{points_Decides}
use Rattle.hyd_tests_on_tanks_and_demands.proofs.stocks.is_curve.Goals as goal

pub returns : goal.returns
returns c held =
    (slice_eq-Decides points_Decides c.args.points.now c.as_slice.result.now c.eq.result c.eq.ensures).0 held
    ∙ c.as_slice.ensures
