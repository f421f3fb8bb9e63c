use Rattle.std.proofs.Common.{◌∙◌, ap, sym, subst}
use Rattle.hyd_spec.specs.Tank.{walls_of}
use Rattle.hyd_spec_certificates.specs.SpansAsIntervals.{flows_of}
use Rattle.hyd_spec_certificates.specs.Interval.{Interval}
use Rattle.hyd_spec_certificates.specs.Stocks.{Stocks}
use Rattle.hyd_spec_open_ends.specs.StocksOverLengths.{carried_levels_over}
use Rattle.hyd_tank.specs.StockIntervals.{AreHeld}
use Rattle.hyd_period_facts.specs.FactsBeforeEnd.{stocks_in}
use Rattle.hyd_open_rules.proofs.carried_over.carried_of.Goals as goal

pub carried_over-requires-clause-held : goal.carried_over-requires-clause-held
carried_over-requires-clause-held c = λ each at.
    subst (λ (s : Stocks). AreHeld (walls_of c.args.project.now each) each s) (sym c.stock_at-stock.ensures)
    (c.requires.tanks.held c.args.tank each at)

pub returns : goal.returns
returns c = λ each at.
    let walls = walls_of c.args.project.now each in
    let lengths = c.args.lengths in
    c.carried_over.ensures.value each at
    ∙ ap (λ (s : Stocks). carried_levels_over walls each s
    (flows_of c.inflow_at-inflow.result) lengths.shortest lengths.longest) c.stock_at-stock.ensures
    ∙ ap (λ (q : Interval). carried_levels_over walls each (stocks_in c.args.facts.now c.args.tank) q lengths.shortest
    lengths.longest) c.inflow_at-inflow.ensures.value
