use Rattle.std.proofs.Common.{List, subst}
use Rattle.hyd_spec.specs.Lists.{Each}
use Rattle.hyd_spec.specs.declared.TankState.{TankState}
use Rattle.hyd_spec_witnesses.specs.MetPeriods.{LinkIsMet}
use Rattle.hyd_period_network.specs.NetAsPeriodNetwork.{grid_of, states_of}
use Rattle.hyd_laws_at_scale.specs.Scales.{parts_of}
use Rattle.hyd_witness_texts.specs.MomentView.{moment_of}
use Rattle.hyd_met_flows.specs.Periods.{period_in}
use Rattle.hyd_course.proofs.PeriodsOfSetNets.{has_links}
use Rattle.hyd_course.proofs.flows.first_unmet_flow.Goals as goal

pub returns-clause-unmet : goal.returns-clause-unmet
returns-clause-unmet c = λ reached is start.
    let project = c.args.project.now in
    let S = parts_of c.args.scale in
    let moment = moment_of c.args.moment.now in
    let net = c.args.set.now.net in
    c.first_unmet_junction.ensures.unmet reached
    (has_links project S reached moment c.args.set.now is start
    (subst (λ (ts : List TankState). Each (grid_of net).links (LinkIsMet project S (period_in moment ts
    (states_of net)))) c.deref.ensures.value c.in_default.ensures.none))

pub returns-clause-met : goal.returns-clause-met
returns-clause-met c = λ reached is start.
    let project = c.args.project.now in
    let S = parts_of c.args.scale in
    let moment = moment_of c.args.moment.now in
    let net = c.args.set.now.net in
    c.first_unmet_junction.ensures.met reached
    (has_links project S reached moment c.args.set.now is start
    (subst (λ (ts : List TankState). Each (grid_of net).links (LinkIsMet project S (period_in moment ts
    (states_of net)))) c.deref.ensures.value c.in_default.ensures.none))
