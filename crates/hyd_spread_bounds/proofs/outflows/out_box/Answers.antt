use Rattle.std.proofs.Common.{◌≡◌, w64, to_z, of_z, arith}
use Rattle.std.proofs.lemmas.Int.{ints}
use Rattle.hyd_spread_bounds.specs.BothSides.{pair_of}
use Rattle.hyd_spread_bounds.proofs.HeadsOfBothSides.{junctions-alike}
use Rattle.hyd_spread_bounds.proofs.OutflowsOfBothSides.{outflow-is, outflow-ordered}
use Rattle.hyd_spread_bounds.proofs.outflows.out_box.Goals as goal

pub out_box-greatest-requires-clause-in_range : goal.out_box-greatest-requires-clause-in_range
out_box-greatest-requires-clause-in_range c =
    let same = junctions-alike c.args.upper.now c.args.lower.now c.requires.pair in
    let above = c.junctions-upper.ensures.each in
    let below = c.junctions-lower.ensures.each in
    let given = c.requires.in_range in
    omega (arith, same, above, below, given)

pub invariant_of-result : goal.invariant_of-result
invariant_of-result c =
    let pair = pair_of c.args.upper.now c.args.lower.now in
    let above = c.junctions-upper.ensures.each in
    let given = c.requires.in_range in
    let rises = c.requires.ordered in
    let order = outflow-ordered pair c.args.junction (to_z w64 (of_z w64 c.args.low))
    (to_z w64 (of_z w64 c.args.high)) c.out_box-least.result c.out_box-greatest.result
    c.out_box-least.ensures.outflow c.out_box-greatest.ensures.outflow c.requires.pair
    c.junctions-lower.ensures.steady (omega (arith, above, given)) (omega (arith, ints, rises)) in
    let lo_small = c.out_box-least.ensures.small_lo in
    let hi_small = c.out_box-greatest.ensures.small_hi in
    record { ordered = omega (arith, ints, order, lo_small, hi_small) }

pub returns-clause-outflow : goal.returns-clause-outflow
returns-clause-outflow c above below at_above at_below =
    let lo_small = c.out_box-least.ensures.small_lo in
    let hi_small = c.out_box-greatest.ensures.small_hi in
    let low_kept : to_z w64 (of_z w64 c.args.low) ≡ c.args.low = omega (arith, ints) in
    let high_kept : to_z w64 (of_z w64 c.args.high) ≡ c.args.high = omega (arith, ints) in
    outflow-is (pair_of c.args.upper.now c.args.lower.now) c.args.junction (to_z w64 (of_z w64 c.args.low))
    (to_z w64 (of_z w64 c.args.high)) c.out_box-least.result c.out_box-greatest.result
    c.out_box-least.ensures.outflow c.out_box-greatest.ensures.outflow c.args.low c.args.high low_kept high_kept _
    (omega (arith, ints, lo_small)) (omega (arith, ints, hi_small)) above below at_above at_below
