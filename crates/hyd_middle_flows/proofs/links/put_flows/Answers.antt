use Rattle.std.proofs.Common.{◌≡◌, ◌<◌, ◌+◌, ◌∙◌, ℕ, ℤ, List, length, refl, sym, subst, ap, arith}
use Rattle.std.specs.Int.{w128}
use Rattle.std.specs.Prelude.{Some, slice_get, slice_set}
use Rattle.std.proofs.lemmas.Int.{to_z-of_z}
use Rattle.std.proofs.lemmas.List.{length-map}
use Rattle.std.proofs.lemmas.Option.{slice_get_within}
use Rattle.hyd_spec_certificates.specs.PeriodNetwork.{GridLink}
use Rattle.hyd_spec_witnesses.specs.MetPeriods.{Moment}
use Rattle.hyd_spec_witnesses.specs.MiddleCandidate.{LinkIsHalfway}
use Rattle.hyd_spec_witnesses.specs.WitnessText.{IsMoment, AreValues, counts_of}
use Rattle.hyd_period_network.specs.NetAsPeriodNetwork.{grid_of, states_of}
use Rattle.hyd_period_network.specs.NetsSetToPeriods.{ends_of}
use Rattle.hyd_witness_texts.specs.MomentView.{moment_of}
use Rattle.hyd_met_flows.specs.Periods.{period_in}
use Rattle.hyd_stocks_below.proofs.ValuesSoFar.{Have, one_more, values_set}
use Rattle.hyd_middle_flows.specs.HalfwayFlows.{LinkPasses, with_flows}
use Rattle.hyd_middle_flows.proofs.OtherFlows.{flows_again, flows_fit}
use Rattle.hyd_middle_flows.proofs.links.put_flows.Goals as goal

pub loop-link-init : goal.loop-link-init
loop-link-init c = record {
  rest = refl;
  fit = c.requires.moment.flows;
  halfway = λ k here lt at. absurd (omega (arith, lt));
}

pub middle_flow-flow-requires-clause-moment : goal.middle_flow-flow-requires-clause-moment
middle_flow-flow-requires-clause-moment c =
    let inv = c.loop-link.invariant in
    subst (IsMoment (counts_of c.args.project.now)) (sym inv.rest)
    (flows_fit (counts_of c.args.project.now) (moment_of c.args.into.now) c.requires.moment
    c.loop-link.into.flows.list inv.fit)

pub loop-link-preserved : goal.loop-link-preserved
loop-link-preserved c =
    let project = c.args.project.now in
    let net = c.args.net.now in
    let tanks = c.args.tanks.now in
    let states = states_of net in
    let first = moment_of c.args.into.now in
    let before = c.loop-link.into in
    let after = c.store_flow.new.into in
    let i : ℕ = c.loop-link.link in
    let inv = c.loop-link.invariant in
    let q = c.middle_flow-flow.result in
    let flows = before.flows.list in
    let kept = to_z-of_z w128 q (record { sfits = c.middle_flow-flow.type_inv }) in
    let e : moment_of after ≡ with_flows (moment_of before) (slice_set flows i q) =
    c.store_flow.ensures ∙ ap (λ (z : ℤ). with_flows (moment_of before) (slice_set flows i z)) kept in
    let now : after.flows.list ≡ slice_set flows i q = ap (λ (m : Moment). m.flows) e in
    let inside : i < length flows = (let a = c.loop-link-test.true in let b = c.links-link-end.ensures.count in
    let d = inv.fit.one_each in let f = ap length c.requires.set.of.ends in
    let m = length-map project.links.list ends_of in omega (arith, a, b, d, f, m)) in
    let next : (here : GridLink) → slice_get (grid_of net).links i ≡ Some here
    → LinkPasses project first tanks states here q =
    (λ here at. subst (λ (m : Moment). LinkPasses project m tanks states here q) inv.rest
    (c.middle_flow-flow.ensures.halfway here at)) in
    record {
      rest = flows_again first (moment_of before) (moment_of after) (slice_set flows i q) e inv.rest;
      fit = subst (AreValues (length project.links.list)) (sym now)
          (values_set (length project.links.list) flows i q inv.fit c.middle_flow-flow.ensures.small);
      halfway = subst (λ (vs : List ℤ). Have (λ k here z. LinkPasses project first tanks states here z)
          (grid_of net).links vs (i + 1)) (sym now)
          (one_more (λ k here z. LinkPasses project first tanks states here z) (grid_of net).links flows i q inside
          inv.halfway next);
    }

pub returns : goal.returns
returns c =
    let project = c.args.project.now in
    let net = c.args.net.now in
    let tanks = c.args.tanks.now in
    let first = moment_of c.args.into.now in
    let inv = c.loop-link.invariant in
    record {
      rest = inv.rest;
      moment = subst (IsMoment (counts_of project)) (sym inv.rest)
          (flows_fit (counts_of project) first c.requires.moment c.loop-link.into.flows.list inv.fit);
      links = λ k here at.
          let a = slice_get_within (grid_of net).links k here at in
          let b = c.links-link-end.ensures.each in
          let d = c.links-link-end.ensures.count in
          let e = c.loop-link-test.false in
          subst (λ (m : Moment). LinkIsHalfway project (period_in m tanks (states_of net)) k here) (sym inv.rest)
          (inv.halfway k here (omega (arith, a, b, d, e)) at);
    }
