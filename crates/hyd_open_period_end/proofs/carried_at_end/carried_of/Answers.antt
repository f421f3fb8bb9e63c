use Rattle.std.proofs.Common.{◌∙◌, ap, sym, subst}
use Rattle.std.specs.Prelude.{Option}
use Rattle.std.specs.Option.{option_map}
use Rattle.hyd_spec.specs.Tank.{walls_of}
use Rattle.hyd_spec_certificates.specs.SpansAsIntervals.{flows_of}
use Rattle.hyd_spec_certificates.specs.Interval.{Interval}
use Rattle.hyd_spec_certificates.specs.Stocks.{Stocks}
use Rattle.hyd_spec_open_ends.specs.StocksOverLengths.{Arrival, carried_at_end}
use Rattle.hyd_tank.specs.StockIntervals.{stocks_of, AreHeld}
use Rattle.hyd_period_facts.specs.FactsBeforeEnd.{stocks_in}
use Rattle.hyd_spec_open_ends.specs.Arrivals as told
use Rattle.hyd_open_watches.specs.Candidates.{watch_for}
use Rattle.hyd_open_period_end.proofs.CarriedLeftByFacts.{reached_here}
use Rattle.hyd_open_period_end.proofs.carried_at_end.carried_of.Goals as goal

pub carried_at_end-requires-clause-held : goal.carried_at_end-requires-clause-held
carried_at_end-requires-clause-held c = λ each at.
    subst (λ (s : Stocks). AreHeld (walls_of c.args.project.now each) each s) (sym c.stock_at-stock.ensures)
    (c.requires.tanks.held c.args.tank each at)

pub carried_at_end-requires-clause-reach : goal.carried_at_end-requires-clause-reach
carried_at_end-requires-clause-reach c = λ each at.
    reached_here c.args.project.now c.args.facts.now c.args.reached c.args.tank each
    (flows_of c.inflow_at-inflow.result)
    c.arrival_at-arrival.result at c.inflow_at-inflow.ensures.value c.requires.reach c.arrival_at-arrival.ensures.from

pub returns : goal.returns
returns c = λ each at.
    let walls = walls_of c.args.project.now each in
    let first = c.args.lengths.shortest in
    let last = c.args.lengths.longest in
    c.carried_at_end.ensures.value each at
    ∙ ap (λ (o : Option Arrival). carried_at_end walls each (stocks_of c.stock_at-stock.result)
    (flows_of c.inflow_at-inflow.result) first last o) c.arrival_at-arrival.ensures.value
    ∙ ap (λ (s : Stocks). carried_at_end walls each s (flows_of c.inflow_at-inflow.result) first last
    (told.arrival_of first (option_map watch_for c.args.reached) c.args.tank)) c.stock_at-stock.ensures
    ∙ ap (λ (q : Interval). carried_at_end walls each (stocks_in c.args.facts.now c.args.tank) q first last
    (told.arrival_of first (option_map watch_for c.args.reached) c.args.tank)) c.inflow_at-inflow.ensures.value
