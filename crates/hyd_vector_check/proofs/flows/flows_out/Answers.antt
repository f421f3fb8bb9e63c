use Rattle.std.proofs.Common.{◌≡◌, ap, sym, subst, w64, to_z, of_z, arith, ℤ, pos, ◌+ℤ◌, List, [], drop, false}
use Rattle.std.specs.Prelude.{slice_set}
use Rattle.std.specs.Int.{w128}
use Rattle.std.proofs.lemmas.Int.{ints}
use Rattle.std.proofs.lemmas.List.{at_drop_more, drop_all}
use Rattle.hyd_spec.specs.Assignment.{head_at}
use Rattle.hyd_spec_certificates.specs.PeriodNetwork.{all_heads}
use Rattle.hyd_period_network.specs.declared.junctions_ends_and_settings.Tie.{Tie}
use Rattle.hyd_period_network.specs.NetAsPeriodNetwork.{grid_of}
use Rattle.hyd_period_network.specs.LinkEnds.{ties_share}
use Rattle.hyd_period_network.specs.SoundNets.{is_upper}
use Rattle.hyd_vector_check.specs.NetOutflowBySide.{flow_by, is_lower, flows_out}
use Rattle.hyd_vector_check.proofs.flows.flows_out.Goals as goal

pub overflow_add-sum : goal.overflow_add-sum
overflow_add-sum c =
    let lt = c.loop-tie-test.true in
    let few = c.row-tie-items.ensures.few in
    let small = c.loop-tie.invariant.small in
    let one = c.share-sum.ensures.small in
    omega (arith, ints, lt, few, small, one)

pub loop-tie-preserved : goal.loop-tie-preserved
loop-tie-preserved c =
    let lt = c.loop-tie-test.true in
    let few = c.row-tie-items.ensures.few in
    let small = c.loop-tie.invariant.small in
    let one = c.share-sum.ensures.small in
    let value = c.share-sum.ensures.value in
    let told = c.loop-tie.invariant.told in
    let more = at_drop_more (λ (ts : List Tie). ties_share (flow_by (is_lower c.args.side))
    (flow_by (is_upper c.args.side)) (grid_of c.args.net.now).links
    (all_heads (grid_of c.args.net.now) c.args.problem c.args.side
    (slice_set c.args.u.now c.args.i (to_z w64 (of_z w64 c.args.head)))) (to_z w64 (of_z w64 c.args.head)) ts)
    c.row-tie-items.result.now c.loop-tie.tie-index (record { link = 0; other = 0; out = false }) lt in
    record {
      told = omega (arith, ints, lt, few, small, one, value, told, more);
      small = omega (arith, ints, lt, few, small, one);
    }

pub returns-clause-value : goal.returns-clause-value
returns-clause-value c =
    let grid = grid_of c.args.net.now in
    let out = flow_by (is_lower c.args.side) in
    let into = flow_by (is_upper c.args.side) in
    let here : to_z w64 (of_z w64 c.args.head) ≡ c.args.head = omega (arith, ints) in
    let told = subst (λ (h : ℤ). (to_z w128 c.loop-tie.sum-bits +ℤ ties_share out into grid.links
    (all_heads grid c.args.problem c.args.side (slice_set c.args.u.now c.args.i h)) h
    (drop c.loop-tie.tie-index c.row-tie-items.result.now))
    ≡ ties_share out into grid.links (all_heads grid c.args.problem c.args.side (slice_set c.args.u.now c.args.i h)) h
    c.row-tie-items.result.now) here c.loop-tie.invariant.told in
    let heads = all_heads grid c.args.problem c.args.side (slice_set c.args.u.now c.args.i c.args.head) in
    let none : drop c.loop-tie.tie-index c.row-tie-items.result.now ≡ [] = drop_all c.loop-tie.tie-index
    c.row-tie-items.result.now c.loop-tie-test.false in
    let left : ties_share out into grid.links heads c.args.head (drop c.loop-tie.tie-index c.row-tie-items.result.now)
    ≡ pos 0 = ap (ties_share out into grid.links heads c.args.head) none in
    let own : head_at heads c.args.i ≡ c.args.head = sym c.requires.here in
    let sum = subst (λ (h : ℤ). ties_share out into grid.links heads h c.row-tie-items.result.now
    ≡ flows_out c.args.side heads c.args.i grid.links) own
    (c.row-tie-items.ensures.sum out into heads) in
    omega (arith, ints, told, left, sum)

pub returns-clause-small : goal.returns-clause-small
returns-clause-small c =
    let few = c.row-tie-items.ensures.few in
    let small = c.loop-tie.invariant.small in
    let end = c.loop-tie.auto.tie-index-end in
    omega (arith, ints, few, small, end)
