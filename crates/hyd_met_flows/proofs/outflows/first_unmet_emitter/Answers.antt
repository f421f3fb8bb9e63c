use Rattle.std.proofs.Common.{◌≡◌, ◌<◌, ℕ, length, inl, inr, sym, subst, arith}
use Rattle.std.specs.Prelude.{Some, slice_get}
use Rattle.std.proofs.lemmas.Bool.{cases_eq}
use Rattle.std.proofs.lemmas.Option.{slice_get_within}
use Rattle.hyd_spec_witnesses.specs.MetPeriods.{EmitterIsMet}
use Rattle.hyd_period_network.specs.NetAsPeriodNetwork.{grid_of}
use Rattle.hyd_laws_at_scale.specs.Scales.{parts_of}
use Rattle.hyd_lemmas.proofs.ListsOptionsAndResults.{item_there}
use Rattle.hyd_witness_texts.specs.MomentView.{moment_of}
use Rattle.hyd_met_flows.specs.Periods.{period_in}
use Rattle.hyd_met_flows.proofs.Tests.{shown, refuted}
use Rattle.hyd_met_flows.proofs.outflows.first_unmet_emitter.Goals as goal

pub returns-then-not-emitter_is_met-clause-some : goal.returns-then-not-emitter_is_met-clause-some
returns-then-not-emitter_is_met-clause-some c = λ tanks links.
    let grid = grid_of c.args.net.now in
    let i : ℕ = c.loop-junction.junction in
    let inside : i < length grid.junctions = (let a = c.loop-junction-test.true in
    let b = c.junctions-junction-end.ensures.each in
    let d = c.junctions-junction-end.ensures.count in omega (arith, a, b, d)) in
    let at = item_there grid.junctions i inside in
    record {
      item = at.0;
      is_item = at.1;
      fails = refuted c.emitter_is_met.result _ c.if-not-emitter_is_met.true (c.emitter_is_met.ensures.no tanks links at.0 at.1);
      earlier = λ k x lt there. c.loop-junction.invariant tanks links k x lt there;
    }

pub loop-junction-preserved : goal.loop-junction-preserved
loop-junction-preserved c = λ tanks links k here lt at.
    let i : ℕ = c.loop-junction.junction in
    elim (cases_eq k i) [
      | inl e ↦ subst (λ (m : ℕ). EmitterIsMet (parts_of c.args.scale) (period_in (moment_of c.args.moment.now) tanks links)
          m here) (sym e)
          (shown c.emitter_is_met.result _ c.if-not-emitter_is_met.false (c.emitter_is_met.ensures.yes tanks links here
          (subst (λ (m : ℕ). slice_get (grid_of c.args.net.now).junctions m ≡ Some here) e at)))
      | inr ne ↦ c.loop-junction.invariant tanks links k here (omega (arith, lt, ne)) at
    ]

pub returns-clause-none : goal.returns-clause-none
returns-clause-none c = λ tanks links k here at.
    let a = slice_get_within (grid_of c.args.net.now).junctions k here at in
    let b = c.junctions-junction-end.ensures.each in
    let d = c.junctions-junction-end.ensures.count in
    let e = c.loop-junction-test.false in
    c.loop-junction.invariant tanks links k here (omega (arith, a, b, d, e)) at
