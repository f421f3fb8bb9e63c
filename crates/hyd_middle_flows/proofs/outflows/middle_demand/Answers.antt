use Rattle.std.proofs.Common.{◌≡◌, ℤ, ℕ, sym, subst}
use Rattle.std.specs.Int.{w128}
use Rattle.std.specs.Prelude.{slice_get}
use Rattle.std.proofs.lemmas.Int.{to_z-of_z}
use Rattle.hyd_spec_certificates.specs.EnclosingFunctions.{DemandLaw}
use Rattle.hyd_spec_certificates.specs.PeriodNetwork.{GridJunction}
use Rattle.hyd_spec_witnesses.specs.DemandsAtScale.{IsDemandInRange}
use Rattle.hyd_spec_witnesses.specs.MetPeriods.{pressure_of}
use Rattle.hyd_spec_witnesses.specs.MiddleCandidate.{halves}
use Rattle.hyd_period_network.specs.Demands.{demand_of_law}
use Rattle.hyd_period_network.specs.NetAsPeriodNetwork.{grid_of}
use Rattle.hyd_laws_at_scale.specs.Scales.{parts_of}
use Rattle.hyd_laws_at_scale.specs.Windows.{IsDemandWindow, IsDemandAnswer}
use Rattle.hyd_laws_at_scale.specs.declared.windows.Window.{Window}
use Rattle.hyd_witness_texts.specs.MomentView.{moment_of}
use Rattle.hyd_met_flows.specs.Periods.{period_in}
use Rattle.hyd_met_flows.proofs.NearFlows.{answer, there}
use Rattle.hyd_middle_flows.specs.HalfwayFlows.{DemandGets}
use Rattle.hyd_middle_flows.proofs.WindowsHalved.{demand_halfway}
use Rattle.hyd_middle_flows.proofs.outflows.middle_demand.Goals as goal

pub returns-clause-halfway : goal.returns-clause-halfway
returns-clause-halfway c = λ tanks links here at.
    let S = parts_of c.halves-2.result in
    let period = period_in (moment_of c.args.moment.now) tanks links in
    let j = c.args.junction in
    let p = c.pressure_of-pressure.result in
    let q = c.halfway.result in
    let window = c.demand_window.result in
    let kept = to_z-of_z w128 p (record { sfits = c.pressure_of-pressure.type_inv }) in
    let is : p ≡ pressure_of halves period j here = subst (λ (s : ℕ). p ≡ pressure_of s period j here)
    c.halves.ensures (c.pressure_of-pressure.ensures tanks links here at) in
    let law = demand_of_law c.demand_law.result.now in
    let same = there (slice_get (grid_of c.args.net.now).junctions j) here
    (λ (g : GridJunction). g.demand ≡ law) at c.demand_law.ensures.grid in
    let mine = answer window (λ (w : Window). IsDemandWindow S law p w) (IsDemandInRange S law p → ⊥)
    (rw kept at c.demand_window.ensures.some) (rw kept at c.demand_window.ensures.none) in
    let own = subst (λ (l : DemandLaw). IsDemandAnswer S l p window) (sym same) mine in
    let given = subst (λ (s : ℕ). IsDemandAnswer s here.demand p window) c.halves-2.ensures own in
    subst (DemandGets here (pressure_of halves period j here))
    (sym (to_z-of_z w128 q (record { sfits = c.halfway.type_inv })))
    (subst (λ (z : ℤ). DemandGets here z q) is
    (demand_halfway here.demand p window q (record {
      some = c.halfway.ensures.some;
      none = c.halfway.ensures.none;
    }) given))
