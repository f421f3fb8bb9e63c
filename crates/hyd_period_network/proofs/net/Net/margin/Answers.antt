use Rattle.std.proofs.Common.{◌≡◌, ◌≤◌, ◌*◌, ◌^◌, ◌+◌, length, pos, to_z, of_z, w64, ◌+ℤ◌, ◌*ℤ◌, ap, subst, arith, ◌∙◌}
use Rattle.std.proofs.lemmas.Int.{ints}
use Rattle.hyd_spec.specs.Scale.{missed_flow_ticks}
use Rattle.hyd_period_network.specs.NetView.{NetView}
use Rattle.hyd_period_network.specs.SoundNets.{IsSoundNet}
use Rattle.hyd_period_network.specs.LinkEnds.{ties_from}
use Rattle.hyd_period_network.proofs.LinkEndLemmas.{few}
use Rattle.hyd_period_network.proofs.NetItemsInGrid.{row_at, margin_is}
use Rattle.hyd_period_network.proofs.net.Net.margin.Goals as goal

count_is : (c : goal.After-len) → c.len.result ≡ length (ties_from c.args.junction 0 c.self.inside.ends.items)
count_is c =
    let count = ap (λ (n : NetView). length n.junctions) c.self.view_is in
    c.len.ensures.value ∙ ap length (row_at _ _ _ c.args.junction c.index.result.now c.self.invariant.1.0
    (omega (arith, count, c.requires)) c.index.ensures)

small : (c : goal.After-len) → c.len.result ≤ 2 ^ 32
small c =
    let n = few c.args.junction 0 c.self.inside.ends.items in
    let l = c.self.invariant.0.few_links in
    omega (arith, n, l, count_is c)

pub overflow_cast-result : goal.overflow_cast-result
overflow_cast-result c = let s = small c in omega (arith, ints, s)

pub overflow_add-result : goal.overflow_add-result
overflow_add-result c = let s = small c in omega (arith, ints, s)

pub overflow_mul-result : goal.overflow_mul-result
overflow_mul-result c = let s = small c in omega (arith, ints, s)

pub returns : goal.returns
returns c =
    let s = small c in
    let same : to_z w64 (of_z w64 (to_z w64 (of_z w64 (to_z w64 c.len.result +ℤ pos 3)) *ℤ pos missed_flow_ticks))
    ≡ pos ((c.len.result + 3) * missed_flow_ticks) = omega (arith, ints, s) in
    margin_is c.args.self.now c.args.junction c.len.result _ (subst IsSoundNet c.self.view_is c.self.invariant.0)
    (count_is c ∙ ap (λ (n : NetView). length (ties_from c.args.junction 0 n.ends)) c.self.view_is) same
