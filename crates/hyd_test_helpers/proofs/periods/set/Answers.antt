use Rattle.std.proofs.lemmas.Result.{on_ok_weaker}
use Rattle.hyd_period_network.specs.NetAsPeriodNetwork.{grid_of}
use Rattle.hyd_test_helpers.proofs.Levels.{tanks_in_order}
use Rattle.hyd_test_helpers.proofs.periods.set.Goals as goal

pub returns-clause-ordered : goal.returns-clause-ordered
returns-clause-ordered c =
    let levels = c.are_levels.ensures c.if-not-are_levels.false in
    on_ok_weaker c.set_period.result
    (λ is. tanks_in_order (grid_of c.set_period.new.self) c.args.project.now.tanks.list c.args.levels.now
    is.tank_heads levels.spans) c.set_period.ensures.grid
