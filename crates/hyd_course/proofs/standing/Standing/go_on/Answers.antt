use Rattle.std.proofs.Common.{◌≡◌, ◌+◌, List, length, refl, sym, ap, subst, ◌∙◌, arith}
use Rattle.std.specs.List.{All, AllZip}
use Rattle.std.specs.Vec.{with_items}
use Rattle.std.proofs.lemmas.List.{with_items_is}
use Rattle.hyd_spec.specs.ProgramTypes.{LinkState}
use Rattle.hyd_spec.specs.Lists.{Each}
use Rattle.hyd_spec.specs.PeriodLength.{Period}
use Rattle.hyd_spec.specs.History.{commanded_after}
use Rattle.hyd_theorems_on_histories.specs.Agreement.{IsOwnState}
use Rattle.hyd_laws_at_scale.specs.Scales.{parts_of}
use Rattle.hyd_stocks_at_scale.specs.declared.motions.Stock.{Stock}
use Rattle.hyd_stocks_at_scale.specs.Motions.{stock_of, IsSmallStock}
use Rattle.hyd_length_at_scale.specs.MetPeriods.{AreInflows}
use Rattle.hyd_length_at_scale.specs.declared.periods.MetPeriod.{MetPeriod}
use Rattle.hyd_witness_texts.specs.MomentView.{moment_of}
use Rattle.hyd_met_flows.specs.Periods.{period_in}
use Rattle.hyd_course.specs.Stocks.{stock_in}
use Rattle.hyd_course.specs.NetsSetForMoments.{IsSetAt}
use Rattle.hyd_course.proofs.OwnLinkStates.{state_each}
use Rattle.hyd_course.proofs.CommandedStates.{commanded_own}
use Rattle.hyd_course.proofs.MetPeriodsOfTrials.{met_period, told_is}
use Rattle.hyd_course.proofs.StandingsAfter.{stands_behind, small_stocks, small_inflows}
use Rattle.hyd_course.proofs.standing.Standing.go_on.Goals as goal

pub command_at_end-requires-clause-period : goal.command_at_end-requires-clause-period
command_at_end-requires-clause-period c =
    let trial = c.args.trial.now in
    let period : MetPeriod = record {
      project = c.args.project;
      scale = c.args.self.now.scale;
      moment = c.args.moment;
      inflows = c.deref.result;
      tanks = c.deref-2.result;
      links = c.deref-3.result;
    } in
    met_period period trial.inflows.items trial.set.tanks.items trial.set.links.items c.deref.ensures.value
    c.deref-2.ensures.value c.deref-3.ensures.value c.requires.sound c.requires.moment c.requires.tried.stocks
    c.requires.tried.inflows c.requires.trial.set.tank_each c.requires.trial.set.link_each

pub command_at_end-requires-clause-each : goal.command_at_end-requires-clause-each
command_at_end-requires-clause-each c =
    ap length c.deref_mut.ensures.value
    ∙ state_each c.args.project.now c.args.project.now.links.list c.args.self.now.commanded.items c.requires.is.states

pub returns-clause-is : goal.returns-clause-is
returns-clause-is c =
    let project = c.args.project.now in
    let moment = moment_of c.args.moment.now in
    let old = c.args.self.now in
    let trial = c.args.trial.now in
    let S = parts_of old.scale in
    let told = period_in moment trial.set.tanks.items trial.set.links.items in
    let period : MetPeriod = record {
      project = c.args.project;
      scale = old.scale;
      moment = c.args.moment;
      inflows = c.deref.result;
      tanks = c.deref-2.result;
      links = c.deref-3.result;
    } in
    let stocks : (with_items old.stocks c.put_stocks.new.stocks).items ≡ c.put_stocks.new.stocks =
    with_items_is old.stocks c.put_stocks.new.stocks (c.put_stocks.ensures.length ∙ c.deref_mut-2.ensures.len) in
    let long : length c.put_stocks.new.stocks ≡ length project.tanks.list =
    c.put_stocks.ensures.length ∙ (ap length c.deref_mut-2.ensures.value ∙ c.requires.is.stock_each) in
    let inflows : c.copy_from_slice.new.self.items ≡ trial.inflows.items =
    c.copy_from_slice.ensures.items ∙ c.deref-4.ensures.value in
    let flow = subst (AreInflows project moment.flows) (sym inflows) c.requires.tried.inflows in
    let commanded : (with_items old.commanded c.command_at_end.new.into).items ≡ commanded_after project S told =
    with_items_is old.commanded c.command_at_end.new.into (c.command_at_end.auto.into ∙ c.deref_mut.ensures.len)
    ∙ (c.command_at_end.ensures.commanded
    ∙ ap (λ (p : Period). commanded_after project S p) (told_is period trial.inflows.items trial.set.tanks.items
    trial.set.links.items c.deref.ensures.value c.deref-2.ensures.value c.deref-3.ensures.value)) in
    record {
      stock_each = ap length stocks ∙ long;
      inflow_each = flow.one_each;
      stocks = subst (All IsSmallStock) (sym stocks) (small_stocks project moment c.put_stocks.new.stocks
          c.requires.tried.stocks long c.put_stocks.ensures.each);
      inflows = small_inflows project c.copy_from_slice.new.self.items flow.one_each flow.small;
      within = c.requires.tried.within;
      states = subst (AllZip (IsOwnState project) project.links.list) (sym commanded)
          (commanded_own project c.requires.sound S moment.levels old.commanded.items told c.requires.is.states
          c.requires.tried.set.links);
    }

pub returns-clause-stands : goal.returns-clause-stands
returns-clause-stands c = λ reached stands met.
    let project = c.args.project.now in
    let moment = moment_of c.args.moment.now in
    let old = c.args.self.now in
    let trial = c.args.trial.now in
    let S = parts_of old.scale in
    let told = period_in moment trial.set.tanks.items trial.set.links.items in
    let period : MetPeriod = record {
      project = c.args.project;
      scale = old.scale;
      moment = c.args.moment;
      inflows = c.deref.result;
      tanks = c.deref-2.result;
      links = c.deref-3.result;
    } in
    let stocks : (with_items old.stocks c.put_stocks.new.stocks).items ≡ c.put_stocks.new.stocks =
    with_items_is old.stocks c.put_stocks.new.stocks (c.put_stocks.ensures.length ∙ c.deref_mut-2.ensures.len) in
    let inflows : c.copy_from_slice.new.self.items ≡ trial.inflows.items =
    c.copy_from_slice.ensures.items ∙ c.deref-4.ensures.value in
    let flow = subst (AreInflows project moment.flows) (sym inflows) c.requires.tried.inflows in
    let commanded : (with_items old.commanded c.command_at_end.new.into).items ≡ commanded_after project S told =
    with_items_is old.commanded c.command_at_end.new.into (c.command_at_end.auto.into ∙ c.deref_mut.ensures.len)
    ∙ (c.command_at_end.ensures.commanded
    ∙ ap (λ (p : Period). commanded_after project S p) (told_is period trial.inflows.items trial.set.tanks.items
    trial.set.links.items c.deref.ensures.value c.deref-2.ensures.value c.deref-3.ensures.value)) in
    let is = subst (λ (cs : List LinkState). IsSetAt project S moment.time moment.levels cs trial.set) stands.commanded
    c.requires.tried.set in
    let count : c.from.result + 1 ≡ moment.number + 1 = (let f = c.from.ensures in omega (arith, f)) in
    stands_behind project S reached moment trial.set _ is refl met.start.number count refl
    (subst (λ (ss : List Stock). Each ss (λ k stock. stock_of stock ≡ stock_in moment k)) (sym stocks)
    c.put_stocks.ensures.each)
    flow.one_each flow.value commanded
