use Rattle.std.proofs.Common.{◌≡◌, ℤ, pos, sym, subst, List, ap, ◌∙◌}
use Rattle.std.specs.Prelude.{slice_get, slice_index_or}
use Rattle.std.specs.Bool.{OnTrue, OnFalse}
use Rattle.std.specs.List.{All}
use Rattle.std.specs.Int.{w128}
use Rattle.hyd_spec_witnesses.specs.WitnessText.{IsValue}
use Rattle.std.proofs.lemmas.Int.{to_z-of_z}
use Rattle.hyd_spec_certificates.specs.EnclosingFunctions.{DemandLaw}
use Rattle.hyd_spec_certificates.specs.PeriodNetwork.{GridJunction}
use Rattle.hyd_spec_witnesses.specs.DemandsAtScale.{IsDemandInRange}
use Rattle.hyd_spec_witnesses.specs.MetFlows.{IsDemandMetBy}
use Rattle.hyd_period_network.specs.Demands.{demand_of_law}
use Rattle.hyd_period_network.specs.NetAsPeriodNetwork.{grid_of}
use Rattle.hyd_laws_at_scale.specs.Scales.{parts_of}
use Rattle.hyd_laws_at_scale.specs.Windows.{IsDemandWindow, IsDemandAnswer}
use Rattle.hyd_laws_at_scale.specs.declared.windows.Window.{Window}
use Rattle.hyd_met_flows.proofs.NearFlows.{answer, there}
use Rattle.hyd_met_flows.proofs.outflows.demand_is_met.Goals as goal

pub value_at-flow-requires-clause-small : goal.value_at-flow-requires-clause-small
value_at-flow-requires-clause-small c = subst (All IsValue) (sym c.as_slice.ensures) c.requires.demands.in_range

pub returns-clause-yes : goal.returns-clause-yes
returns-clause-yes c = λ tanks links here at.
    let S = parts_of c.args.scale in
    let flows = c.args.moment.now.demands.list in
    let p = c.pressure_of-pressure.result in
    let kept = to_z-of_z w128 p (record { sfits = c.pressure_of-pressure.type_inv }) in
    let is = c.pressure_of-pressure.ensures tanks links here at in
    let law = demand_of_law c.demand_law.result.now in
    let same = there (slice_get (grid_of c.args.net.now).junctions c.args.junction) here
    (λ (j : GridJunction). j.demand ≡ law) at c.demand_law.ensures.grid in
    let mine = answer c.demand_window-window.result (λ (w : Window). IsDemandWindow S law p w)
    (IsDemandInRange S law p → ⊥) (rw kept at c.demand_window-window.ensures.some)
    (rw kept at c.demand_window-window.ensures.none) in
    let given = subst (λ (l : DemandLaw). IsDemandAnswer S l p c.demand_window-window.result) (sym same) mine in
    let q = c.value_at-flow.result in
    let flow : q ≡ slice_index_or flows c.args.junction (pos 0) = c.value_at-flow.ensures.value
    ∙ ap (λ (vs : List ℤ). slice_index_or vs c.args.junction (pos 0)) c.as_slice.ensures in
    subst (λ (z : ℤ). OnTrue c.is_demand_met.result (IsDemandMetBy here.demand S z
    (slice_index_or flows c.args.junction (pos 0)))) is
    (subst (λ (z : ℤ). OnTrue c.is_demand_met.result (IsDemandMetBy here.demand S p z)) flow
    (rw (to_z-of_z w128 q (record { sfits = c.value_at-flow.type_inv })) at
    (c.is_demand_met.ensures.yes here.demand p given)))

pub returns-clause-no : goal.returns-clause-no
returns-clause-no c = λ tanks links here at.
    let S = parts_of c.args.scale in
    let flows = c.args.moment.now.demands.list in
    let p = c.pressure_of-pressure.result in
    let kept = to_z-of_z w128 p (record { sfits = c.pressure_of-pressure.type_inv }) in
    let is = c.pressure_of-pressure.ensures tanks links here at in
    let law = demand_of_law c.demand_law.result.now in
    let same = there (slice_get (grid_of c.args.net.now).junctions c.args.junction) here
    (λ (j : GridJunction). j.demand ≡ law) at c.demand_law.ensures.grid in
    let mine = answer c.demand_window-window.result (λ (w : Window). IsDemandWindow S law p w)
    (IsDemandInRange S law p → ⊥) (rw kept at c.demand_window-window.ensures.some)
    (rw kept at c.demand_window-window.ensures.none) in
    let given = subst (λ (l : DemandLaw). IsDemandAnswer S l p c.demand_window-window.result) (sym same) mine in
    let q = c.value_at-flow.result in
    let flow : q ≡ slice_index_or flows c.args.junction (pos 0) = c.value_at-flow.ensures.value
    ∙ ap (λ (vs : List ℤ). slice_index_or vs c.args.junction (pos 0)) c.as_slice.ensures in
    subst (λ (z : ℤ). OnFalse c.is_demand_met.result (IsDemandMetBy here.demand S z
    (slice_index_or flows c.args.junction (pos 0)) → ⊥)) is
    (subst (λ (z : ℤ). OnFalse c.is_demand_met.result (IsDemandMetBy here.demand S p z → ⊥)) flow
    (rw (to_z-of_z w128 q (record { sfits = c.value_at-flow.type_inv })) at
    (c.is_demand_met.ensures.no here.demand p given)))
