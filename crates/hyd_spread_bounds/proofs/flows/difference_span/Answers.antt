use Rattle.std.proofs.Common.{◌≡◌, w64, to_z, of_z, arith, ◌-ℤ◌}
use Rattle.std.proofs.lemmas.Int.{ints}
use Rattle.hyd_spec.specs.Assignment.{head_at}
use Rattle.hyd_spec_certificates.specs.declared.Problem.TheVariants.{Main}
use Rattle.hyd_period_network.specs.NetAsPeriodNetwork.{grid_of}
use Rattle.hyd_spread_bounds.specs.BothSides.{pair_of, all_below, all_above}
use Rattle.hyd_spread_bounds.proofs.FlowsOfBothSides.{difference-is}
use Rattle.hyd_spread_bounds.proofs.flows.difference_span.Goals as goal

pub returns-clause-value : goal.returns-clause-value
returns-clause-value c =
    let pair = pair_of c.args.upper.now c.args.lower.now in
    let below = all_below pair Main c.args.low.now in
    let above = all_above pair Main c.args.high.now in
    let a = c.head_span-from.ensures.lo in
    let b = c.head_span-to.ensures.hi in
    let d = c.head_span-from.ensures.hi in
    let e = c.head_span-to.ensures.lo in
    let a_small = c.head_span-from.ensures.small_lo in
    let b_small = c.head_span-to.ensures.small_hi in
    let d_small = c.head_span-from.ensures.small_hi in
    let e_small = c.head_span-to.ensures.small_lo in
    let l_value = c.difference.ensures.value in
    let g_value = c.difference-2.ensures.value in
    let least : to_z w64 (of_z w64 c.difference.result)
    ≡ (head_at below c.ends-ends.result.from -ℤ head_at above c.ends-ends.result.to) =
    omega (arith, ints, a, b, a_small, b_small, l_value) in
    let greatest : to_z w64 (of_z w64 c.difference-2.result)
    ≡ (head_at above c.ends-ends.result.from -ℤ head_at below c.ends-ends.result.to) =
    omega (arith, ints, d, e, d_small, e_small, g_value) in
    difference-is (grid_of c.args.upper.now).links c.args.link c.ends-ends.result below above
    (to_z w64 (of_z w64 c.difference.result)) (to_z w64 (of_z w64 c.difference-2.result)) c.ends-ends.ensures.grid
    least greatest
