use Rattle.std.proofs.Common.{◌≡◌, ◌<◌, ℕ, pos, length, inl, inr, sym, subst, ap, arith}
use Rattle.std.specs.Prelude.{Some, slice_get, slice_index_or}
use Rattle.std.proofs.lemmas.Bool.{cases_eq}
use Rattle.std.proofs.lemmas.List.{length-map}
use Rattle.std.proofs.lemmas.Option.{slice_get_within}
use Rattle.hyd_spec_witnesses.specs.MetPeriods.{LinkIsMet}
use Rattle.hyd_period_network.specs.NetAsPeriodNetwork.{grid_of, states_of}
use Rattle.hyd_period_network.specs.NetsSetToPeriods.{ends_of}
use Rattle.hyd_laws_at_scale.specs.Scales.{parts_of}
use Rattle.hyd_lemmas.proofs.ListsOptionsAndResults.{item_there, any_default}
use Rattle.hyd_witness_texts.specs.MomentView.{moment_of}
use Rattle.hyd_met_flows.specs.Periods.{period_in, IsSmallFlow}
use Rattle.hyd_met_flows.proofs.Tests.{shown, refuted}
use Rattle.hyd_met_flows.proofs.links.first_unmet_link.Goals as goal

pub returns-then-not-link_is_met-clause-some : goal.returns-then-not-link_is_met-clause-some
returns-then-not-link_is_met-clause-some c =
    let grid = grid_of c.args.net.now in
    let i : ℕ = c.loop-link.link in
    let inside : i < length grid.links = (let a = c.loop-link-test.true in let b = c.links-link-end.ensures.each in
    let d = c.links-link-end.ensures.count in omega (arith, a, b, d)) in
    let at = item_there grid.links i inside in
    record {
      item = at.0;
      is_item = at.1;
      fails = refuted c.link_is_met.result _ c.if-not-link_is_met.true (c.link_is_met.ensures.no at.0 at.1);
      earlier = λ k x lt there. c.loop-link.invariant.met k x lt there;
    }

pub loop-link-preserved : goal.loop-link-preserved
loop-link-preserved c =
    let project = c.args.project.now in
    let S = parts_of c.args.scale in
    let period = period_in (moment_of c.args.moment.now) c.args.tanks.now (states_of c.args.net.now) in
    let flows = c.args.moment.now.flows.list in
    let i : ℕ = c.loop-link.link in
    let few : i < length flows = (let a = c.loop-link-test.true in let b = c.links-link-end.ensures.count in
    let d = c.requires.moment.flows.one_each in let e = ap length c.requires.set.of.ends in
    let m = length-map c.args.project.now.links.list ends_of in omega (arith, a, b, d, e, m)) in
    record {
      met = λ k here lt at. elim (cases_eq k i) [
        | inl e ↦ subst (λ (m : ℕ). LinkIsMet project S period m here) (sym e)
            (shown c.link_is_met.result _ c.if-not-link_is_met.false (c.link_is_met.ensures.yes here
            (subst (λ (m : ℕ). slice_get (grid_of c.args.net.now).links m ≡ Some here) e at)))
        | inr ne ↦ c.loop-link.invariant.met k here (omega (arith, lt, ne)) at
      ];
      small = λ k d lt. elim (cases_eq k i) [
        | inl e ↦ subst (λ (m : ℕ). IsSmallFlow (slice_index_or flows m d)) (sym e)
            (subst IsSmallFlow (any_default flows i (pos 0) d few)
            (shown c.link_is_met.result _ c.if-not-link_is_met.false c.link_is_met.ensures.small))
        | inr ne ↦ c.loop-link.invariant.small k d (omega (arith, lt, ne))
      ];
    }

pub returns-clause-none : goal.returns-clause-none
returns-clause-none c k here at =
    let a = slice_get_within (grid_of c.args.net.now).links k here at in
    let b = c.links-link-end.ensures.each in
    let d = c.links-link-end.ensures.count in
    let e = c.loop-link-test.false in
    c.loop-link.invariant.met k here (omega (arith, a, b, d, e)) at
