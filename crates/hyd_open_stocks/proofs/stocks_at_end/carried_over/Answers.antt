use Rattle.std.proofs.Common.{◌∙◌, ap}
use Rattle.hyd_spec.specs.Tank.{walls_of}
use Rattle.hyd_spec_certificates.specs.Interval.{Interval}
use Rattle.hyd_spec_certificates.specs.SpansAsIntervals.{flows_of}
use Rattle.hyd_spec_certificates.specs.Stocks.{Stocks, carried_levels}
use Rattle.hyd_spec_open_ends.specs.StocksOverLengths.{hull}
use Rattle.hyd_tank.specs.StockIntervals.{stocks_of}
use Rattle.hyd_tank.proofs.TanksOfSoundNetworks.{carried_is}
use Rattle.hyd_open_stocks.specs.EndsOfContents.{contents_of}
use Rattle.hyd_open_stocks.proofs.stocks_at_end.carried_over.Goals as goal

pub returns-clause-value : goal.returns-clause-value
returns-clause-value c = λ each at.
    let walls = walls_of c.args.project.now each in
    let stocks = stocks_of c.args.stock in
    let flow = flows_of c.args.inflow in
    let first = c.of_levels.ensures.contents ∙ ap (λ (s : Stocks). s.level) (c.stock_at-first.ensures.value each at)
    ∙ carried_is walls each stocks flow c.args.lengths.shortest in
    let last = c.of_levels-2.ensures.contents ∙ ap (λ (s : Stocks). s.level) (c.stock_at-last.ensures.value each at)
    ∙ carried_is walls each stocks flow c.args.lengths.longest in
    c.to_levels.ensures ∙ c.hull.ensures.contents
    ∙ ap (λ (x : Interval). hull x (contents_of c.of_levels-2.result)) first
    ∙ ap (λ (x : Interval). hull (carried_levels walls each stocks flow c.args.lengths.shortest) x) last
