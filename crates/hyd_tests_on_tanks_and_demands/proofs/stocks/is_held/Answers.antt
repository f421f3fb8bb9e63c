use Rattle.hyd_tank.specs.StockIntervals.{stocks_of}
use Rattle.hyd_tests_on_tanks_and_demands.proofs.Held.{are_held}
use Rattle.hyd_tests_on_tanks_and_demands.proofs.stocks.is_held.Goals as goal

pub returns : goal.returns
returns c each held at =
    are_held c.args.project.now each (stocks_of c.args.stock.now) (c.has_basin.ensures c.if-not-has_basin.false) at
    (c.lies.ensures.level held) (c.lies.ensures.volume held)
