use Rattle.std.proofs.Common.{◌≡◌, ℤ, pos, subst, List, ap, ◌∙◌, sym}
use Rattle.std.specs.Prelude.{slice_index_or}
use Rattle.std.specs.Bool.{OnTrue, OnFalse}
use Rattle.std.specs.List.{All}
use Rattle.std.specs.Int.{w128}
use Rattle.hyd_spec_witnesses.specs.WitnessText.{IsValue}
use Rattle.std.proofs.lemmas.Int.{to_z-of_z}
use Rattle.hyd_spec_witnesses.specs.MetFlows.{IsMetBy}
use Rattle.hyd_laws_at_scale.specs.Scales.{parts_of}
use Rattle.hyd_met_flows.specs.Periods.{IsSmallFlow}
use Rattle.hyd_met_flows.proofs.links.link_is_met.Goals as goal

pub value_at-flow-requires-clause-small : goal.value_at-flow-requires-clause-small
value_at-flow-requires-clause-small c = subst (All IsValue) (sym c.as_slice.ensures) c.requires.moment.flows.in_range

pub returns-clause-yes : goal.returns-clause-yes
returns-clause-yes c = λ here at.
    let project = c.args.project.now in
    let S = parts_of c.args.scale in
    let flows = c.args.moment.now.flows.list in
    let d = c.difference_of-difference.result in
    let kept = to_z-of_z w128 d (record { sfits = c.difference_of-difference.type_inv }) in
    let is = c.difference_of-difference.ensures c.args.net.now c.args.tanks.now here c.requires.set at in
    let q = c.value_at-flow.result in
    let flow : q ≡ slice_index_or flows c.args.link (pos 0) = c.value_at-flow.ensures.value
    ∙ ap (λ (vs : List ℤ). slice_index_or vs c.args.link (pos 0)) c.as_slice.ensures in
    subst (λ (z : ℤ). OnTrue c.is_met.result (IsMetBy here.law S z (slice_index_or flows c.args.link (pos 0)))) is
    (subst (λ (z : ℤ). OnTrue c.is_met.result (IsMetBy here.law S d z)) flow
    (rw (to_z-of_z w128 q (record { sfits = c.value_at-flow.type_inv })) at
    (c.is_met.ensures.yes here.law d (rw kept at (c.window_of_link-window.ensures here at)))))

pub returns-clause-no : goal.returns-clause-no
returns-clause-no c = λ here at.
    let project = c.args.project.now in
    let S = parts_of c.args.scale in
    let flows = c.args.moment.now.flows.list in
    let d = c.difference_of-difference.result in
    let kept = to_z-of_z w128 d (record { sfits = c.difference_of-difference.type_inv }) in
    let is = c.difference_of-difference.ensures c.args.net.now c.args.tanks.now here c.requires.set at in
    let q = c.value_at-flow.result in
    let flow : q ≡ slice_index_or flows c.args.link (pos 0) = c.value_at-flow.ensures.value
    ∙ ap (λ (vs : List ℤ). slice_index_or vs c.args.link (pos 0)) c.as_slice.ensures in
    subst (λ (z : ℤ). OnFalse c.is_met.result (IsMetBy here.law S z (slice_index_or flows c.args.link (pos 0)) → ⊥)) is
    (subst (λ (z : ℤ). OnFalse c.is_met.result (IsMetBy here.law S d z → ⊥)) flow
    (rw (to_z-of_z w128 q (record { sfits = c.value_at-flow.type_inv })) at
    (c.is_met.ensures.no here.law d (rw kept at (c.window_of_link-window.ensures here at)))))

pub returns-clause-small : goal.returns-clause-small
returns-clause-small c =
    let flows = c.args.moment.now.flows.list in
    let q = c.value_at-flow.result in
    let flow : q ≡ slice_index_or flows c.args.link (pos 0) = c.value_at-flow.ensures.value
    ∙ ap (λ (vs : List ℤ). slice_index_or vs c.args.link (pos 0)) c.as_slice.ensures in
    subst (λ (z : ℤ). OnTrue c.is_met.result (IsSmallFlow z)) flow
    (rw (to_z-of_z w128 q (record { sfits = c.value_at-flow.type_inv })) at c.is_met.ensures.small)
