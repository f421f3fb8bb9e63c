use Rattle.std.proofs.Common.{◌∙◌, ap, sym, subst}
use Rattle.hyd_spec.specs.Tank.{walls_of}
use Rattle.hyd_spec_certificates.specs.SpansAsIntervals.{flows_of}
use Rattle.hyd_spec_certificates.specs.Interval.{Interval}
use Rattle.hyd_spec_certificates.specs.Stocks.{Stocks, next_stocks}
use Rattle.hyd_tank.specs.StockIntervals.{AreHeld}
use Rattle.hyd_period_facts.specs.FactsBeforeEnd.{stocks_in}
use Rattle.hyd_period_facts.proofs.stocks.next_of.Goals as goal

pub next_stock-requires-clause-held : goal.next_stock-requires-clause-held
next_stock-requires-clause-held c = λ each at.
    subst (λ (s : Stocks). AreHeld (walls_of c.args.project.now each) each s) (sym c.stock_at-stock.ensures)
    (c.requires.tanks.held c.args.tank each at)

pub returns-clause-value : goal.returns-clause-value
returns-clause-value c = λ each at.
    let walls = walls_of c.args.project.now each in
    c.next_stock.ensures.value each at
    ∙ ap (λ (s : Stocks). next_stocks walls each s
    (flows_of c.inflow_at-inflow.result) c.args.seconds) c.stock_at-stock.ensures
    ∙ ap (λ (q : Interval). next_stocks walls each (stocks_in c.args.facts.now c.args.tank) q c.args.seconds)
    c.inflow_at-inflow.ensures.value
