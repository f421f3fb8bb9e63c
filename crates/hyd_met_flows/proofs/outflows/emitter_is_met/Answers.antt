use Rattle.std.proofs.Common.{◌≡◌, ℤ, pos, sym, subst, ◌∙◌, List, ap}
use Rattle.std.specs.Prelude.{slice_get, slice_index_or, Option, Some}
use Rattle.std.specs.Option.{option_map, option_copied}
use Rattle.std.specs.Bool.{OnTrue, OnFalse}
use Rattle.std.specs.List.{All}
use Rattle.std.specs.Int.{w128}
use Rattle.hyd_spec_witnesses.specs.WitnessText.{IsValue}
use Rattle.std.proofs.lemmas.Int.{to_z-of_z}
use Rattle.hyd_spec.specs.ProgramTypes.{Capacity}
use Rattle.hyd_spec.specs.Law.{QuadraticLaw}
use Rattle.hyd_spec_certificates.specs.PeriodNetwork.{GridJunction}
use Rattle.hyd_spec_witnesses.specs.EnclosingFunctionsAtScale.{IsInRange}
use Rattle.hyd_spec_witnesses.specs.MetFlows.{IsEmitterMetBy}
use Rattle.hyd_period_network.specs.NetAsPeriodNetwork.{grid_of, capacity_of}
use Rattle.hyd_laws_at_scale.specs.Scales.{parts_of}
use Rattle.hyd_laws_at_scale.specs.Windows.{IsWindow}
use Rattle.hyd_laws_at_scale.specs.declared.windows.Window.{Window}
use Rattle.hyd_met_flows.proofs.NearFlows.{answer, there}
use Rattle.hyd_met_flows.proofs.outflows.emitter_is_met.Goals as goal

pub value_at-flow-requires-clause-small : goal.value_at-flow-requires-clause-small
value_at-flow-requires-clause-small c = subst (All IsValue) (sym c.as_slice.ensures) c.requires.emitters.in_range

pub returns-in-Some-clause-yes : goal.returns-in-Some-clause-yes
returns-in-Some-clause-yes c = λ tanks links here at.
    let S = parts_of c.args.scale in
    let flows = c.args.moment.now.emitters.list in
    let p = c.pressure_of-pressure.result in
    let kept = to_z-of_z w128 p (record { sfits = c.pressure_of-pressure.type_inv }) in
    let is = c.pressure_of-pressure.ensures tanks links here at in
    let law = QuadraticLaw c.in-Some.law.now.cap in
    let emitter = there (slice_get (grid_of c.args.net.now).junctions c.args.junction) here
    (λ (j : GridJunction). j.emitter ≡ option_map capacity_of (option_copied c.emitter_law.result)) at
    c.emitter_law.ensures.grid in
    let mine = answer c.emitter_window.result (λ (w : Window). IsWindow S law p w) (IsInRange S law p → ⊥)
    (rw kept at c.emitter_window.ensures.some) (rw kept at c.emitter_window.ensures.none) in
    let q = c.value_at-flow.result in
    let flow : q ≡ slice_index_or flows c.args.junction (pos 0) = c.value_at-flow.ensures.value
    ∙ ap (λ (vs : List ℤ). slice_index_or vs c.args.junction (pos 0)) c.as_slice.ensures in
    let met = rw (to_z-of_z w128 q (record { sfits = c.value_at-flow.type_inv })) at
    (c.is_met.ensures.yes law p mine) in
    let own : here.emitter ≡ Some c.in-Some.law.now.cap = (rw c.in-Some.is at emitter) in
    subst (λ (z : ℤ). OnTrue c.is_met.result (IsEmitterMetBy here.emitter S z
    (slice_index_or flows c.args.junction (pos 0)))) is
    (subst (λ (z : ℤ). OnTrue c.is_met.result (IsEmitterMetBy here.emitter S p z)) flow
    (subst (λ (e : Option Capacity). OnTrue c.is_met.result (IsEmitterMetBy e S p q)) (sym own) met))

pub returns-in-Some-clause-no : goal.returns-in-Some-clause-no
returns-in-Some-clause-no c = λ tanks links here at.
    let S = parts_of c.args.scale in
    let flows = c.args.moment.now.emitters.list in
    let p = c.pressure_of-pressure.result in
    let kept = to_z-of_z w128 p (record { sfits = c.pressure_of-pressure.type_inv }) in
    let is = c.pressure_of-pressure.ensures tanks links here at in
    let law = QuadraticLaw c.in-Some.law.now.cap in
    let emitter = there (slice_get (grid_of c.args.net.now).junctions c.args.junction) here
    (λ (j : GridJunction). j.emitter ≡ option_map capacity_of (option_copied c.emitter_law.result)) at
    c.emitter_law.ensures.grid in
    let mine = answer c.emitter_window.result (λ (w : Window). IsWindow S law p w) (IsInRange S law p → ⊥)
    (rw kept at c.emitter_window.ensures.some) (rw kept at c.emitter_window.ensures.none) in
    let q = c.value_at-flow.result in
    let flow : q ≡ slice_index_or flows c.args.junction (pos 0) = c.value_at-flow.ensures.value
    ∙ ap (λ (vs : List ℤ). slice_index_or vs c.args.junction (pos 0)) c.as_slice.ensures in
    let met = rw (to_z-of_z w128 q (record { sfits = c.value_at-flow.type_inv })) at
    (c.is_met.ensures.no law p mine) in
    let own : here.emitter ≡ Some c.in-Some.law.now.cap = (rw c.in-Some.is at emitter) in
    subst (λ (z : ℤ). OnFalse c.is_met.result (IsEmitterMetBy here.emitter S z
    (slice_index_or flows c.args.junction (pos 0)) → ⊥)) is
    (subst (λ (z : ℤ). OnFalse c.is_met.result (IsEmitterMetBy here.emitter S p z → ⊥)) flow
    (subst (λ (e : Option Capacity). OnFalse c.is_met.result (IsEmitterMetBy e S p q → ⊥)) (sym own) met))
