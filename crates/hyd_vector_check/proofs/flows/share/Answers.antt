use Rattle.std.proofs.Common.{◌≡◌, ◌∙◌, ap, w64, to_z, of_z, arith, ℤ, Bool, pos, neg_ℤ, ◌-ℤ◌}
use Rattle.std.specs.Int.{w128}
use Rattle.std.specs.Prelude.{slice_set}
use Rattle.std.proofs.lemmas.Int.{ints}
use Rattle.hyd_spec.specs.Assignment.{head_at}
use Rattle.hyd_spec_certificates.specs.PeriodNetwork.{all_heads}
use Rattle.hyd_period_network.specs.NetAsPeriodNetwork.{grid_of}
use Rattle.hyd_period_network.specs.SoundNets.{is_upper}
use Rattle.hyd_vector_check.specs.NetOutflowBySide.{flow_by, is_lower}
use Rattle.hyd_vector_check.proofs.FlowsOfLinkEnds.{stands-for, out-share, in-share}
use Rattle.hyd_vector_check.proofs.flows.share.Goals as goal

pub flow-requires-clause-accepted : goal.flow-requires-clause-accepted
flow-requires-clause-accepted c =
    let there = stands-for (grid_of c.args.net.now).links c.args.tie.link c.law-law.result.now
    (let a = c.requires.tie.link in let b = c.requires.links in omega (arith, a, b)) c.law-law.ensures.stands in
    let small = c.difference.ensures.small in
    there.stands.accepts _ (omega (arith, ints, small))

pub returns-then-tie-clause-value : goal.returns-then-tie-clause-value
returns-then-tie-clause-value c =
    let there = stands-for (grid_of c.args.net.now).links c.args.tie.link c.law-law.result.now
    (let a = c.requires.tie.link in let b = c.requires.links in omega (arith, a, b)) c.law-law.ensures.stands in
    let heads = all_heads (grid_of c.args.net.now) c.args.problem c.args.side
    (slice_set c.args.u.now c.args.i c.args.head) in
    let here : to_z w64 (of_z w64 c.args.head) ≡ c.args.head = omega (arith, ints) in
    let far : c.head_with-there.result ≡ head_at heads c.args.tie.other = c.head_with-there.ensures.value
    ∙ ap (λ (h : ℤ). head_at (all_heads (grid_of c.args.net.now) c.args.problem c.args.side
    (slice_set c.args.u.now c.args.i h)) c.args.tie.other) here in
    let d : to_z w64 (of_z w64 c.difference.result) ≡ c.args.head -ℤ c.head_with-there.result =
    (let v = c.difference.ensures.value in let s = c.head_with-there.ensures.small in omega (arith, ints, v, s)) in
    let kept : to_z w128 (of_z w128 c.flow.result) ≡ c.flow.result = omega (arith, ints) in
    let value = c.flow.ensures.value there.link.law there.stands in
    out-share (flow_by (is_lower c.args.side)) (flow_by (is_upper c.args.side)) (grid_of c.args.net.now).links heads
    c.args.head
    c.head_with-there.result (to_z w64 (of_z w64 c.difference.result)) (to_z w128 (of_z w128 c.flow.result))
    c.args.tie c.law-law.result.now there c.if-tie.true far d
    (kept ∙ (value ∙ ap (λ (b : Bool). flow_by b there.link.law (to_z w64 (of_z w64 c.difference.result)))
    c.is_lower.ensures))

pub flow-requires-2-clause-sound : goal.flow-requires-2-clause-sound
flow-requires-2-clause-sound c =
    (stands-for (grid_of c.args.net.now).links c.args.tie.link c.law-law.result.now
    (let a = c.requires.tie.link in let b = c.requires.links in
    omega (arith, a, b)) c.law-law.ensures.stands).stands.sound

pub flow-requires-2-clause-accepted : goal.flow-requires-2-clause-accepted
flow-requires-2-clause-accepted c =
    let there = stands-for (grid_of c.args.net.now).links c.args.tie.link c.law-law.result.now
    (let a = c.requires.tie.link in let b = c.requires.links in omega (arith, a, b)) c.law-law.ensures.stands in
    let small = c.difference-2.ensures.small in
    there.stands.accepts _ (omega (arith, ints, small))

pub returns-clause-value : goal.returns-clause-value
returns-clause-value c =
    let there = stands-for (grid_of c.args.net.now).links c.args.tie.link c.law-law.result.now
    (let a = c.requires.tie.link in let b = c.requires.links in omega (arith, a, b)) c.law-law.ensures.stands in
    let heads = all_heads (grid_of c.args.net.now) c.args.problem c.args.side
    (slice_set c.args.u.now c.args.i c.args.head) in
    let here : to_z w64 (of_z w64 c.args.head) ≡ c.args.head = omega (arith, ints) in
    let far : c.head_with-there.result ≡ head_at heads c.args.tie.other = c.head_with-there.ensures.value
    ∙ ap (λ (h : ℤ). head_at (all_heads (grid_of c.args.net.now) c.args.problem c.args.side
    (slice_set c.args.u.now c.args.i h)) c.args.tie.other) here in
    let d : to_z w64 (of_z w64 c.difference-2.result) ≡ c.head_with-there.result -ℤ c.args.head =
    (let v = c.difference-2.ensures.value in let s = c.head_with-there.ensures.small in omega (arith, ints, v, s)) in
    let small = c.flow-2.ensures.small in
    let kept : to_z w128 (of_z w128 (pos 0 -ℤ to_z w128 (of_z w128 c.flow-2.result))) ≡ neg_ℤ c.flow-2.result =
    omega (arith, ints, small) in
    let value = c.flow-2.ensures.value there.link.law there.stands in
    kept ∙ in-share (flow_by (is_lower c.args.side)) (flow_by (is_upper c.args.side)) (grid_of c.args.net.now).links
    heads c.args.head
    c.head_with-there.result (to_z w64 (of_z w64 c.difference-2.result)) c.flow-2.result c.args.tie
    c.law-law.result.now there c.if-tie.false far d
    (value ∙ ap (λ (b : Bool). flow_by b there.link.law (to_z w64 (of_z w64 c.difference-2.result))) c.is_upper.ensures)
