use Rattle.std.proofs.Common.{◌≡◌, ◌∙◌, pos, ap, sym, subst}
use Rattle.std.specs.Prelude.{Option, Some, None}
use Rattle.std.specs.Option.{option_map}
use Rattle.hyd_spec.specs.Scale.{missed_stock_ticks}
use Rattle.hyd_spec.specs.Tank.{walls_of, content_bounds, level_bounds}
use Rattle.hyd_spec_certificates.specs.Interval.{Interval}
use Rattle.hyd_spec_certificates.specs.SpansAsIntervals.{flows_of}
use Rattle.hyd_spec_open_ends.specs.StocksOverLengths.{contents_at_end, cut_by, content_ends, stocks_at_end}
use Rattle.hyd_tank.specs.StockIntervals.{stocks_of}
use Rattle.hyd_open_stocks.specs.declared.ends_of_contents.Contents.{Contents}
use Rattle.hyd_open_stocks.specs.declared.lengths_and_arrivals.Arrival.{Arrival}
use Rattle.hyd_open_stocks.specs.EndsOfContents.{contents_of, arrival_of, AreOfStocks, AreWithin, stocks_with}
use Rattle.hyd_open_stocks.proofs.GoalsMet.{left_with}
use Rattle.hyd_open_stocks.proofs.stocks_at_end.stock_at_end.Goals as goal
use Rattle.hyd_open_stocks.proofs.stocks_at_end.stock_at_end.Goals.{in-None, in-Some}

pub cut_contents-left-requires-clause-reach : goal.cut_contents-left-requires-clause-reach
cut_contents-left-requires-clause-reach c = λ each at. rw c.in-Some.is at (c.requires.reach each at)

pub returns-clause-held : goal.returns-clause-held
returns-clause-held c = λ each at.
    let walls = walls_of c.args.project.now each in
    let all = c.contents_over-all.ensures.within each at in
    c.to_stock.ensures.held walls each (c.has_curve-with_curve.ensures each at)
    (elim c.match-arrival.branch [
      | in-None w ↦ subst (AreWithin (content_bounds walls each) (level_bounds each)) (sym w.left-is) all
      | in-Some w ↦ subst (AreWithin (content_bounds walls each) (level_bounds each)) (sym w.left-is)
          (w.cut_contents-left.ensures.within each at all)
    ])

pub returns-clause-value : goal.returns-clause-value
returns-clause-value c = λ each at.
    let walls = walls_of c.args.project.now each in
    let stocks = stocks_of c.args.stock in
    let flow = flows_of c.args.inflow in
    let s = c.args.lengths.shortest in
    let l = c.args.lengths.longest in
    let all = c.contents_over-all.ensures.value each at in
    let left : AreOfStocks walls each (contents_at_end walls each stocks flow s l
    (option_map arrival_of c.args.arrival)) c.match-arrival.left =
    elim c.match-arrival.branch [
      | in-None w ↦
          let here : c.args.arrival ≡ None = w.in-None.is in
          subst (AreOfStocks walls each (contents_at_end walls each stocks flow s l
          (option_map arrival_of c.args.arrival))) (sym w.left-is)
          (subst (λ (o : Option Arrival). AreOfStocks walls each (contents_at_end walls each stocks flow s l
          (option_map arrival_of o)) c.contents_over-all.result) (sym here) all)
      | in-Some w ↦
          let here : c.args.arrival ≡ Some w.in-Some.here = w.in-Some.is in
          subst (AreOfStocks walls each (contents_at_end walls each stocks flow s l
          (option_map arrival_of c.args.arrival))) (sym w.left-is)
          (subst (λ (o : Option Arrival). AreOfStocks walls each (contents_at_end walls each stocks flow s l
          (option_map arrival_of o)) w.cut_contents-left.result) (sym here)
          (record {
            contents_are = w.cut_contents-left.ensures.value each at
                ∙ ap (λ (x : Interval). cut_by (content_ends (pos missed_stock_ticks) walls each) walls each flow
                (arrival_of w.in-Some.here) x) all.contents_are;
            levels_go = w.cut_contents-left.ensures.levels each at all.levels_go;
          }))
    ] in
    c.to_stock.ensures.value walls each (c.has_curve-with_curve.ensures each at) left.levels_go
    ∙ ap (stocks_with walls each) left.contents_are
    ∙ left_with walls each stocks flow s l (option_map arrival_of c.args.arrival)
