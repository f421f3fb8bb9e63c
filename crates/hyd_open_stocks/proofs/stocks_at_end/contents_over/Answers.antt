use Rattle.std.proofs.Common.{◌∙◌, pos, ap}
use Rattle.hyd_spec.specs.Scale.{missed_stock_ticks}
use Rattle.hyd_spec.specs.Tank.{walls_of, content_bounds, level_bounds}
use Rattle.hyd_spec_certificates.specs.Interval.{Interval}
use Rattle.hyd_spec_certificates.specs.SpansAsIntervals.{flows_of}
use Rattle.hyd_spec_certificates.specs.Stocks.{contents_after}
use Rattle.hyd_spec_open_ends.specs.StocksOverLengths.{hull}
use Rattle.hyd_tank.specs.StockIntervals.{stocks_of}
use Rattle.hyd_open_stocks.specs.EndsOfContents.{contents_of, lower_with, upper_with}
use Rattle.hyd_open_stocks.proofs.GoalsMet.{next_with}
use Rattle.hyd_open_stocks.proofs.stocks_at_end.contents_over.Goals as goal

pub returns-clause-value : goal.returns-clause-value
returns-clause-value c = λ each at.
    let walls = walls_of c.args.project.now each in
    let stocks = stocks_of c.args.stock in
    let flow = flows_of c.args.inflow in
    let curve = c.requires.curve each at in
    let x = contents_after (pos missed_stock_ticks) walls each stocks flow c.args.lengths.shortest in
    let y = contents_after (pos missed_stock_ticks) walls each stocks flow c.args.lengths.longest in
    let first = c.of_stock.ensures.value walls each x curve
    (c.next_stock-first.ensures.value each at ∙ next_with walls each stocks flow c.args.lengths.shortest) in
    let last = c.of_stock-2.ensures.value walls each y curve
    (c.next_stock-last.ensures.value each at ∙ next_with walls each stocks flow c.args.lengths.longest) in
    record {
      contents_are = c.hull.ensures.contents
          ∙ ap (λ (z : Interval). hull z (contents_of c.of_stock-2.result)) first.contents_are
          ∙ ap (λ (z : Interval). hull x z) last.contents_are;
      levels_go = c.hull.ensures.levels (lower_with walls each) (upper_with walls each) first.levels_go last.levels_go;
    }

pub returns-clause-within : goal.returns-clause-within
returns-clause-within c = λ each at.
    let walls = walls_of c.args.project.now each in
    let curve = c.requires.curve each at in
    c.hull.ensures.within (content_bounds walls each) (level_bounds each)
    (c.of_stock.ensures.within walls each curve (c.next_stock-first.ensures.held each at))
    (c.of_stock-2.ensures.within walls each curve (c.next_stock-last.ensures.held each at))
