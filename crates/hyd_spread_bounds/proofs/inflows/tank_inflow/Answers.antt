use Rattle.std.proofs.Common.{◌≡◌, ◌+◌, ◌-◌, ◌∙◌, ap, arith, ℕ}
use Rattle.std.proofs.lemmas.Int.{ints}
use Rattle.hyd_spec_certificates.specs.declared.Problem.TheVariants.{Pinned}
use Rattle.hyd_spec_certificates.specs.EnclosingFunctions.{low, high}
use Rattle.hyd_spec_certificates.specs.NetOutflow.{net, link_ends}
use Rattle.hyd_spec_spread_runs.specs.OutermostPairs.{spanned}
use Rattle.hyd_bounds.specs.VectorsInOrder.{tank_node_of}
use Rattle.hyd_spread_bounds.specs.BothSides.{pair_of, all_below, all_above}
use Rattle.hyd_spread_bounds.proofs.HeadsOfBothSides.{junctions-alike, reservoirs-alike, tanks-alike}
use Rattle.hyd_spread_bounds.proofs.InflowsOfBothSides.{lower-flows, upper-flows, flows-ordered}
use Rattle.hyd_spread_bounds.proofs.inflows.tank_inflow.Goals as goal

pub tank_flows-least-requires-clause-in_range : goal.tank_flows-least-requires-clause-in_range
tank_flows-least-requires-clause-in_range c =
    let same = tanks-alike c.args.upper.now c.args.lower.now c.requires.pair in
    let given = c.requires.in_range in
    omega (arith, same, given)

pub tank_flows-least-requires-clause-node : goal.tank_flows-least-requires-clause-node
tank_flows-least-requires-clause-node c =
    let junctions = junctions-alike c.args.upper.now c.args.lower.now c.requires.pair in
    let reservoirs = reservoirs-alike c.args.upper.now c.args.lower.now c.requires.pair in
    let above = c.junctions-upper.ensures.each in
    let below = c.junctions-lower.ensures.each in
    let nodes = c.nodes.ensures.count in
    let tanks = c.tanks.ensures.count in
    let given = c.requires.in_range in
    omega (arith, junctions, reservoirs, above, below, nodes, tanks, given)

pub invariant_of-result : goal.invariant_of-result
invariant_of-result c =
    let pair = pair_of c.args.upper.now c.args.lower.now in
    let junctions = junctions-alike c.args.upper.now c.args.lower.now c.requires.pair in
    let reservoirs = reservoirs-alike c.args.upper.now c.args.lower.now c.requires.pair in
    let above = c.junctions-upper.ensures.each in
    let below = c.junctions-lower.ensures.each in
    let nodes = c.nodes.ensures.count in
    let tanks = c.tanks.ensures.count in
    let each = c.tanks.ensures.each in
    let given = c.requires.in_range in
    let low_each = c.requires.low.one_each in
    let high_each = c.requires.high.one_each in
    let node = c.nodes.result - c.tanks.result + c.args.tank in
    let ordered = flows-ordered pair c.requires.pair c.junctions-upper.ensures.steady c.args.tank node c.args.low.now
    c.args.high.now (omega (arith, junctions, above, below, low_each, high_each)) reservoirs
    (omega (arith, junctions, above, below, low_each, nodes, tanks, given)) (omega (arith, each, given))
    c.requires.ordered in
    let low_value = c.tank_flows-least.ensures.value
    ∙ lower-flows pair c.requires.pair c.args.tank node c.args.low.now in
    let high_value = c.tank_flows-greatest.ensures.value
    ∙ upper-flows pair c.requires.pair c.args.tank node c.args.high.now in
    let low_small = c.tank_flows-least.ensures.small in
    let high_small = c.tank_flows-greatest.ensures.small in
    let few = c.row.ensures.few in
    record { ordered = omega (arith, ints, ordered, low_value, high_value, low_small, high_small, few) }

pub returns-clause-inflow : goal.returns-clause-inflow
returns-clause-inflow c =
    let pair = pair_of c.args.upper.now c.args.lower.now in
    let links = (spanned pair).links in
    let nodes = c.nodes.ensures.count in
    let tanks = c.tanks.ensures.count in
    let given = c.requires.in_range in
    let node : c.nodes.result - c.tanks.result + c.args.tank ≡ tank_node_of c.args.upper.now c.args.tank =
    omega (arith, nodes, tanks, given) in
    let ends = c.row.ensures.count ∙ ap (λ (n : ℕ). link_ends n links) node in
    let low_value = c.tank_flows-least.ensures.value
    ∙ (lower-flows pair c.requires.pair c.args.tank (c.nodes.result - c.tanks.result + c.args.tank) c.args.low.now
    ∙ ap (λ (n : ℕ). net high low (all_below pair (Pinned c.args.tank) c.args.low.now) n links) node) in
    let high_value = c.tank_flows-greatest.ensures.value
    ∙ (upper-flows pair c.requires.pair c.args.tank (c.nodes.result - c.tanks.result + c.args.tank) c.args.high.now
    ∙ ap (λ (n : ℕ). net low high (all_above pair (Pinned c.args.tank) c.args.high.now) n links) node) in
    let low_small = c.tank_flows-least.ensures.small in
    let high_small = c.tank_flows-greatest.ensures.small in
    let few = c.row.ensures.few in
    record {
      lo_is = omega (arith, ints, ends, low_value, low_small, few);
      hi_is = omega (arith, ints, ends, high_value, high_small, few);
    }

pub returns-clause-small_lo : goal.returns-clause-small_lo
returns-clause-small_lo c =
    let small = c.tank_flows-least.ensures.small in
    let few = c.row.ensures.few in
    omega (arith, ints, small, few)

pub returns-clause-small_hi : goal.returns-clause-small_hi
returns-clause-small_hi c =
    let small = c.tank_flows-greatest.ensures.small in
    let few = c.row.ensures.few in
    omega (arith, ints, small, few)
