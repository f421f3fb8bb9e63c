use Rattle.std.proofs.Common.{◌∙◌, ap, sym, subst}
use Rattle.hyd_spec.specs.Tank.{walls_of}
use Rattle.hyd_spec_certificates.specs.SpansAsIntervals.{flows_of}
use Rattle.hyd_spec_certificates.specs.Interval.{Interval}
use Rattle.hyd_spec_certificates.specs.Stocks.{Stocks, carried_levels}
use Rattle.hyd_tank.specs.StockIntervals.{stocks_of, AreHeld}
use Rattle.hyd_period_facts.specs.FactsBeforeEnd.{stocks_in}
use Rattle.hyd_tank.proofs.TanksOfSoundNetworks.{carried_is}
use Rattle.hyd_period_facts.proofs.carried.carried_of.Goals as goal

pub stock_at-carried-requires-clause-held : goal.stock_at-carried-requires-clause-held
stock_at-carried-requires-clause-held c = λ each at.
    subst (λ (s : Stocks). AreHeld (walls_of c.args.project.now each) each s) (sym c.stock_at-stock.ensures)
    (c.requires.tanks.held c.args.tank each at)

pub returns : goal.returns
returns c = λ each at.
    let walls = walls_of c.args.project.now each in
    ap (λ (s : Stocks). s.level) (c.stock_at-carried.ensures.value each at)
    ∙ carried_is walls each (stocks_of c.stock_at-stock.result) (flows_of c.inflow_at-inflow.result) c.args.seconds
    ∙ ap (λ (s : Stocks). carried_levels walls each s
    (flows_of c.inflow_at-inflow.result) c.args.seconds) c.stock_at-stock.ensures
    ∙ ap (λ (q : Interval). carried_levels walls each (stocks_in c.args.facts.now c.args.tank) q c.args.seconds)
    c.inflow_at-inflow.ensures.value
