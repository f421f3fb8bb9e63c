-- What is kept behind a period that is met.
use Rattle.std.proofs.Common.{◌≡◌, ℕ, ◌+◌, ◌<◌, ◌≤◌, ℤ, pos, List, length, sym, ap, ◌∙◌, subst, arith}
use Rattle.std.specs.Prelude.{Some, slice_index_or, unsigned_abs}
use Rattle.std.specs.List.{All}
use Rattle.std.proofs.lemmas.Option.{slice_get_within}
use Rattle.hyd_spec.specs.ProgramTypes.{Project}
use Rattle.hyd_spec.specs.Lists.{Each}
use Rattle.hyd_spec.specs.NodeNumbers.{tank_count}
use Rattle.hyd_spec.specs.Tank.{Stock as OneStock, tank_inflow}
use Rattle.hyd_spec.specs.History.{commanded_after}
use Rattle.hyd_spec_witnesses.specs.MetPeriods.{Moment, Reached, commanded_at, after_moment}
use Rattle.hyd_lemmas.proofs.ListsOptionsAndResults.{item_is, item_there, any_default}
use Rattle.hyd_laws_at_scale.specs.Scales.{parts_of}
use Rattle.hyd_stocks_at_scale.specs.Motions.{stock_of, IsSmallStock, content_limit, inflow_limit}
use Rattle.hyd_stocks_at_scale.specs.declared.motions.Stock.{Stock}
use Rattle.hyd_met_flows.specs.Periods.{period_in}
use Rattle.hyd_course.specs.declared.set_net.SetNet.{SetNet}
use Rattle.hyd_course.specs.declared.standing.Standing.{Standing}
use Rattle.hyd_course.specs.Stocks.{stock_in, AreSmallStocks}
use Rattle.hyd_course.specs.Standings.{StandsAt, IsSmallInflow}
use Rattle.hyd_course.specs.NetsSetForMoments.{IsSetAt}
use Rattle.hyd_course.proofs.PeriodsOfSetNets.{told_period}

-- a course stands behind a moment whose period is kept
pub stands_behind : (project : Project) (S : ℕ) (reached : Reached) (moment : Moment) (set : SetNet) (new : Standing)
    → IsSetAt project S moment.time moment.levels (commanded_at project S reached.last) set → parts_of new.scale ≡ S
    → moment.number ≡ reached.count → new.count ≡ moment.number + 1
    → new.last ≡ Some (record { time = moment.time; length = moment.length })
    → Each new.stocks.items (λ k stock. stock_of stock ≡ stock_in moment k)
    → length new.inflows.items ≡ tank_count project
    → ((k : ℕ) → k < tank_count project
    → slice_index_or new.inflows.items k (pos 0) ≡ tank_inflow project k moment.flows)
    → new.commanded.items ≡ commanded_after project S (period_in moment set.tanks.items set.links.items)
    → StandsAt project S (after_moment project S reached moment) new
stands_behind project S reached moment set new is scale number count last stocks long inflows commanded = record {
  scale = scale;
  count = omega (arith, number, count);
  last = record {
    last = last;
    stocks = stocks;
    inflows = λ k inflow at.
        let lt = slice_get_within new.inflows.items k inflow at in
        sym (item_is new.inflows.items k inflow (pos 0) at) ∙ inflows k (omega (arith, lt, long));
  };
  commanded = commanded ∙ ap (commanded_after project S) (told_period project S reached moment set is);
}

-- stocks of a moment are small
pub small_stocks : (project : Project) (moment : Moment) (stocks : List Stock) → AreSmallStocks project moment
    → length stocks ≡ tank_count project → Each stocks (λ k stock. stock_of stock ≡ stock_in moment k)
    → All IsSmallStock stocks
small_stocks project moment stocks small long are k d lt =
    let tank = item_there project.tanks.list k (omega (arith, lt, long)) in
    let stock = item_there stocks k lt in
    let is = are k stock.0 stock.1 in
    let kept = small k tank.0 tank.1 in
    subst IsSmallStock (sym (item_is stocks k stock.0 d stock.1)) (record {
      level = subst (λ (v : ℤ). unsigned_abs v ≤ content_limit) (sym (ap (λ (s : OneStock). s.level) is)) kept.level;
      volume = subst (λ (v : ℤ). unsigned_abs v ≤ content_limit) (sym (ap (λ (s : OneStock). s.volume) is)) kept.volume;
    })

pub small_inflows : (project : Project) (inflows : List ℤ) → length inflows ≡ tank_count project
    → ((k : ℕ) → k < tank_count project → unsigned_abs (slice_index_or inflows k (pos 0)) ≤ inflow_limit)
    → All IsSmallInflow inflows
small_inflows project inflows long small k d lt =
    subst IsSmallInflow (any_default inflows k (pos 0) d lt) (small k (omega (arith, lt, long)))
