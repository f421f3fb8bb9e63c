use Rattle.std.proofs.Common.{ℤ, List, subst, ◌∙◌}
use Rattle.hyd_spec.specs.ProgramTypes.{LinkState}
use Rattle.hyd_spec.specs.PeriodLength.{Period, HasItsLength}
use Rattle.hyd_period_network.specs.NetAsPeriodNetwork.{grid_of}
use Rattle.hyd_laws_at_scale.specs.Scales.{parts_of}
use Rattle.hyd_witness_texts.specs.MomentView.{moment_of}
use Rattle.hyd_met_flows.proofs.Tests.{shown}
use Rattle.hyd_course.specs.NetsSetForMoments.{IsSetAt}
use Rattle.hyd_course.proofs.PeriodsOfSetNets.{told_period}
use Rattle.hyd_course.proofs.trial.Trial.judge.Goals as goal

pub returns-clause-met : goal.returns-clause-met
returns-clause-met c = λ reached stands.
    let project = c.args.project.now in
    let S = parts_of c.args.standing.now.scale in
    let moment = moment_of c.args.moment.now in
    let set = c.set.new.self in
    let start = shown c.start_is_met.result _ c.if-not-start_is_met.false (c.start_is_met.ensures.yes reached stands) in
    let is = subst (λ (cs : List LinkState). IsSetAt project S moment.time moment.levels cs set)
    (c.deref.ensures.value ∙ stands.commanded)
    (subst (λ (ls : List ℤ). IsSetAt project S moment.time ls c.deref.result.now set) c.as_slice-levels.ensures
    c.in-Ok.ensures.set) in
    let balances = c.in_default.ensures.met reached is start in
    let lasts = shown c.lasts.result _ c.if-not-lasts.false c.lasts.ensures.yes in
    record {
      start = start;
      small = balances.emitters.demands.links.in_range.small;
      links = balances.emitters.demands.links.links;
      junctions = (grid_of set.net).junctions;
      are_junctions = balances.emitters.demands.links.are_junctions;
      demands = balances.emitters.demands.demands;
      emitters = balances.emitters.emitters;
      balance = balances.balance;
      lasts = subst (λ (p : Period). HasItsLength project S p) (told_period project S reached moment set is) lasts;
    }
