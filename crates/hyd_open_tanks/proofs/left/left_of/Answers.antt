use Rattle.std.proofs.Common.{sym, subst}
use Rattle.std.specs.Option.{option_map}
use Rattle.hyd_spec.specs.Tank.{walls_of, level_bounds}
use Rattle.hyd_spec_certificates.specs.SpansAsIntervals.{flows_of, levels_of}
use Rattle.hyd_spec_certificates.specs.Stocks.{Stocks}
use Rattle.hyd_theorems_on_definitions.specs.LyingInIntervals.{IsWithin}
use Rattle.hyd_tank.specs.StockIntervals.{stocks_of, AreHeld}
use Rattle.hyd_open_stocks.specs.EndsOfContents.{arrival_of}
use Rattle.hyd_open_watches.specs.Candidates.{watch_for}
use Rattle.hyd_open_tanks.proofs.KeptSoFar.{kept_within}
use Rattle.hyd_open_tanks.proofs.StocksLeftByFacts.{reached_here, left_parts}
use Rattle.hyd_open_tanks.proofs.left.left_of.Goals as goal

pub carried_at_end-carried-requires-clause-held : goal.carried_at_end-carried-requires-clause-held
carried_at_end-carried-requires-clause-held c = λ each at.
    subst (λ (s : Stocks). AreHeld (walls_of c.args.project.now each) each s) (sym c.stock_at-stock.ensures)
    (c.requires.tanks.held c.args.tank each at)

pub carried_at_end-carried-requires-clause-reach : goal.carried_at_end-carried-requires-clause-reach
carried_at_end-carried-requires-clause-reach c = λ each at.
    reached_here c.args.project.now c.args.facts.now c.args.reached c.args.tank each
    (flows_of c.inflow_at-inflow.result)
    c.arrival_at-arrival.result at c.inflow_at-inflow.ensures.value c.requires.reach c.arrival_at-arrival.ensures.from

pub stock_at_end-next-requires-clause-held : goal.stock_at_end-next-requires-clause-held
stock_at_end-next-requires-clause-held c = λ each at.
    subst (λ (s : Stocks). AreHeld (walls_of c.args.project.now each) each s) (sym c.stock_at-stock.ensures)
    (c.requires.tanks.held c.args.tank each at)

pub stock_at_end-next-requires-clause-reach : goal.stock_at_end-next-requires-clause-reach
stock_at_end-next-requires-clause-reach c = λ each at.
    reached_here c.args.project.now c.args.facts.now c.args.reached c.args.tank each
    (flows_of c.inflow_at-inflow.result)
    c.arrival_at-arrival.result at c.inflow_at-inflow.ensures.value c.requires.reach c.arrival_at-arrival.ensures.from

pub returns-clause-value : goal.returns-clause-value
returns-clause-value c = λ each at.
    left_parts c.args.project.now c.args.facts.now c.args.lengths.shortest c.args.lengths.longest
    (option_map watch_for c.args.reached) c.args.tank each (stocks_of c.stock_at-stock.result)
    (flows_of c.inflow_at-inflow.result) (option_map arrival_of c.arrival_at-arrival.result)
    (levels_of c.carried_at_end-carried.result) (stocks_of c.stock_at_end-next.result) (levels_of c.keep.result)
    c.stock_at-stock.ensures c.inflow_at-inflow.ensures.value c.arrival_at-arrival.ensures.value
    (c.carried_at_end-carried.ensures.value each at) (c.stock_at_end-next.ensures.value each at) c.keep.ensures

pub returns-clause-held : goal.returns-clause-held
returns-clause-held c = λ each at.
    let held = c.stock_at_end-next.ensures.held each at in
    record {
      level = subst (IsWithin (level_bounds each)) (sym c.keep.ensures)
          (kept_within (level_bounds each) c.args.project.now.controls.list c.args.tank
          (levels_of c.carried_at_end-carried.result) (levels_of c.stock_at_end-next.result.level)
          (c.carried_at_end-carried.ensures.within each at) held.level);
      volume = held.volume;
    }
