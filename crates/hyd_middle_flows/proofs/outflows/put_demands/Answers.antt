use Rattle.std.proofs.Common.{◌≡◌, ◌<◌, ◌+◌, ◌∙◌, ℕ, ℤ, List, length, refl, sym, subst, ap, arith}
use Rattle.std.specs.Int.{w128}
use Rattle.std.specs.Prelude.{Some, slice_get, slice_set}
use Rattle.std.proofs.lemmas.Int.{to_z-of_z}
use Rattle.std.proofs.lemmas.Option.{slice_get_within}
use Rattle.hyd_spec.specs.ProgramTypes.{LinkState}
use Rattle.hyd_spec.specs.declared.TankState.{TankState}
use Rattle.hyd_spec_certificates.specs.PeriodNetwork.{GridJunction}
use Rattle.hyd_spec_witnesses.specs.MetPeriods.{Moment, pressure_of}
use Rattle.hyd_spec_witnesses.specs.MiddleCandidate.{halves, DemandIsHalfway}
use Rattle.hyd_spec_witnesses.specs.WitnessText.{AreValues}
use Rattle.hyd_period_network.specs.NetAsPeriodNetwork.{grid_of}
use Rattle.hyd_witness_texts.specs.MomentView.{moment_of}
use Rattle.hyd_met_flows.specs.Periods.{period_in}
use Rattle.hyd_stocks_below.proofs.ValuesSoFar.{Have, one_more, values_set}
use Rattle.hyd_middle_flows.specs.HalfwayFlows.{DemandGets, with_demands}
use Rattle.hyd_middle_flows.proofs.OtherFlows.{demands_again}
use Rattle.hyd_middle_flows.proofs.outflows.put_demands.Goals as goal

pub loop-junction-init : goal.loop-junction-init
loop-junction-init c = record {
  rest = refl;
  fit = c.requires.demands;
  halfway = λ tanks links k here lt at. absurd (omega (arith, lt));
}

pub middle_demand-flow-requires-clause-heads : goal.middle_demand-flow-requires-clause-heads
middle_demand-flow-requires-clause-heads c =
    subst (AreValues (length c.args.net.now.junctions))
    (sym (ap (λ (m : Moment). m.heads) c.loop-junction.invariant.rest)) c.requires.heads

pub loop-junction-preserved : goal.loop-junction-preserved
loop-junction-preserved c =
    let net = c.args.net.now in
    let n = length net.junctions in
    let first = moment_of c.args.into.now in
    let before = c.loop-junction.into in
    let after = c.store_demand.new.into in
    let i : ℕ = c.loop-junction.junction in
    let inv = c.loop-junction.invariant in
    let q = c.middle_demand-flow.result in
    let flows = before.demands.list in
    let kept = to_z-of_z w128 q (record { sfits = c.middle_demand-flow.type_inv }) in
    let e : moment_of after ≡ with_demands (moment_of before) (slice_set flows i q) =
    c.store_demand.ensures ∙ ap (λ (z : ℤ). with_demands (moment_of before) (slice_set flows i z)) kept in
    let now : after.demands.list ≡ slice_set flows i q = ap (λ (m : Moment). m.demands) e in
    let inside : i < length flows = (let a = c.loop-junction-test.true in
    let b = c.junctions-junction-end.ensures.count in let d = inv.fit.one_each in omega (arith, a, b, d)) in
    let next : (tanks : List TankState) (links : List LinkState) (here : GridJunction)
    → slice_get (grid_of net).junctions i ≡ Some here
    → DemandGets here (pressure_of halves (period_in first tanks links) i here) q =
    (λ tanks links here at.
    subst (λ (m : Moment). DemandGets here (pressure_of halves (period_in m tanks links) i here) q)
    inv.rest (c.middle_demand-flow.ensures.halfway tanks links here at)) in
    record {
      rest = demands_again first (moment_of before) (moment_of after) (slice_set flows i q) e inv.rest;
      fit = subst (AreValues n) (sym now) (values_set n flows i q inv.fit c.middle_demand-flow.ensures.small);
      halfway = λ tanks links. subst (λ (vs : List ℤ). Have (λ k here z.
          DemandGets here (pressure_of halves (period_in first tanks links) k here) z) (grid_of net).junctions vs
          (i + 1)) (sym now)
          (one_more (λ k here z. DemandGets here (pressure_of halves (period_in first tanks links) k here) z)
          (grid_of net).junctions flows i q inside (inv.halfway tanks links) (next tanks links));
    }

pub returns : goal.returns
returns c =
    let net = c.args.net.now in
    let inv = c.loop-junction.invariant in
    record {
      rest = inv.rest;
      fit = inv.fit;
      demands = λ tanks links k here at.
          let a = slice_get_within (grid_of net).junctions k here at in
          let b = c.junctions-junction-end.ensures.each in
          let d = c.junctions-junction-end.ensures.count in
          let e = c.loop-junction-test.false in
          subst (λ (m : Moment). DemandIsHalfway (period_in m tanks links) k here) (sym inv.rest)
          (inv.halfway tanks links k here (omega (arith, a, b, d, e)) at);
    }
