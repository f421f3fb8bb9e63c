use Rattle.std.proofs.Common.{◌∙◌, List, ℤ, pos, length, sym, ap, subst, arith}
use Rattle.std.specs.Prelude.{slice_index_or}
use Rattle.std.specs.List.{All}
use Rattle.std.specs.Bool.{OnTrue, OnFalse}
use Rattle.std.specs.Int.{w128}
use Rattle.std.proofs.lemmas.Int.{to_z-of_z}
use Rattle.hyd_spec.specs.Assignment.{IsBalanced, net_outflow}
use Rattle.hyd_laws_at_scale.specs.Scales.{parts_of}
use Rattle.hyd_spec_witnesses.specs.WitnessText.{IsValue}
use Rattle.hyd_period_network.specs.Demands.{IsNetJunction}
use Rattle.hyd_period_network.proofs.NetOfSoundProject.{long_zipped}
use Rattle.hyd_met_flows.proofs.balances.balance_is_met.Goals as goal

pub net_outflow-outflow-requires-clause-there : goal.net_outflow-outflow-requires-clause-there
net_outflow-outflow-requires-clause-there c = let there = c.requires.there in omega (arith, there)

pub net_outflow-outflow-requires-clause-each : goal.net_outflow-outflow-requires-clause-each
net_outflow-outflow-requires-clause-each c = ap length c.as_slice.ensures ∙ c.requires.moment.flows.one_each

pub net_outflow-outflow-requires-clause-small : goal.net_outflow-outflow-requires-clause-small
net_outflow-outflow-requires-clause-small c =
    subst (All IsValue) (sym c.as_slice.ensures) c.requires.moment.flows.in_range

pub value_at-demand-requires-clause-there : goal.value_at-demand-requires-clause-there
value_at-demand-requires-clause-there c =
    let long = long_zipped IsNetJunction c.args.project.now.junctions.list c.args.net.now.junctions
    c.requires.of.junctions in
    let n = ap length c.as_slice-2.ensures in
    let each = c.requires.moment.demands.one_each in
    let there = c.requires.there in
    omega (arith, long, n, each, there)

pub value_at-demand-requires-clause-small : goal.value_at-demand-requires-clause-small
value_at-demand-requires-clause-small c =
    subst (All IsValue) (sym c.as_slice-2.ensures) c.requires.moment.demands.in_range

pub value_at-emitter-requires-clause-there : goal.value_at-emitter-requires-clause-there
value_at-emitter-requires-clause-there c =
    let long = long_zipped IsNetJunction c.args.project.now.junctions.list c.args.net.now.junctions
    c.requires.of.junctions in
    let n = ap length c.as_slice-3.ensures in
    let each = c.requires.moment.emitters.one_each in
    let there = c.requires.there in
    omega (arith, long, n, each, there)

pub value_at-emitter-requires-clause-small : goal.value_at-emitter-requires-clause-small
value_at-emitter-requires-clause-small c =
    subst (All IsValue) (sym c.as_slice-3.ensures) c.requires.moment.emitters.in_range

pub returns-clause-yes : goal.returns-clause-yes
returns-clause-yes c = λ tanks links here.
    let S = parts_of c.args.scale in
    let moment = c.args.moment.now in
    let links-of = c.args.project.now.links.list in
    let j = c.args.junction in
    let o = c.net_outflow-outflow.result in
    let d = c.value_at-demand.result in
    let e = c.value_at-emitter.result in
    let ko = to_z-of_z w128 o (record { sfits = c.net_outflow-outflow.type_inv }) in
    let kd = to_z-of_z w128 d (record { sfits = c.value_at-demand.type_inv }) in
    let ke = to_z-of_z w128 e (record { sfits = c.value_at-emitter.type_inv }) in
    let out = c.net_outflow-outflow.ensures.value ∙ ap (net_outflow j links-of) c.as_slice.ensures in
    let demand = c.value_at-demand.ensures.value
    ∙ ap (λ (vs : List ℤ). slice_index_or vs j (pos 0)) c.as_slice-2.ensures in
    let emitter = c.value_at-emitter.ensures.value
    ∙ ap (λ (vs : List ℤ). slice_index_or vs j (pos 0)) c.as_slice-3.ensures in
    subst (λ (z : ℤ). OnTrue c.is_balanced.result (IsBalanced S z (slice_index_or moment.demands.list j (pos 0))
    (slice_index_or moment.emitters.list j (pos 0)))) out
    (subst (λ (z : ℤ). OnTrue c.is_balanced.result (IsBalanced S o z (slice_index_or moment.emitters.list j (pos 0))))
    demand
    (subst (λ (z : ℤ). OnTrue c.is_balanced.result (IsBalanced S o d z)) emitter
    (rw (ko, kd, ke) at c.is_balanced.ensures.yes)))

pub returns-clause-no : goal.returns-clause-no
returns-clause-no c = λ tanks links here.
    let S = parts_of c.args.scale in
    let moment = c.args.moment.now in
    let links-of = c.args.project.now.links.list in
    let j = c.args.junction in
    let o = c.net_outflow-outflow.result in
    let d = c.value_at-demand.result in
    let e = c.value_at-emitter.result in
    let ko = to_z-of_z w128 o (record { sfits = c.net_outflow-outflow.type_inv }) in
    let kd = to_z-of_z w128 d (record { sfits = c.value_at-demand.type_inv }) in
    let ke = to_z-of_z w128 e (record { sfits = c.value_at-emitter.type_inv }) in
    let out = c.net_outflow-outflow.ensures.value ∙ ap (net_outflow j links-of) c.as_slice.ensures in
    let demand = c.value_at-demand.ensures.value
    ∙ ap (λ (vs : List ℤ). slice_index_or vs j (pos 0)) c.as_slice-2.ensures in
    let emitter = c.value_at-emitter.ensures.value
    ∙ ap (λ (vs : List ℤ). slice_index_or vs j (pos 0)) c.as_slice-3.ensures in
    subst (λ (z : ℤ). OnFalse c.is_balanced.result (IsBalanced S z (slice_index_or moment.demands.list j (pos 0))
    (slice_index_or moment.emitters.list j (pos 0)) → ⊥)) out
    (subst (λ (z : ℤ). OnFalse c.is_balanced.result (IsBalanced S o z (slice_index_or moment.emitters.list j (pos 0))
    → ⊥)) demand
    (subst (λ (z : ℤ). OnFalse c.is_balanced.result (IsBalanced S o d z → ⊥)) emitter
    (rw (ko, kd, ke) at c.is_balanced.ensures.no)))
