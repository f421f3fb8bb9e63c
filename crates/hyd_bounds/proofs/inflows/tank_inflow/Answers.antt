use Rattle.std.proofs.Common.{◌≡◌, ◌+◌, ◌-◌, ◌∙◌, ap, arith, ℕ, length}
use Rattle.std.proofs.lemmas.Int.{ints}
use Rattle.hyd_spec_certificates.specs.declared.Problem.TheVariants.{Pinned}
use Rattle.hyd_spec_certificates.specs.declared.Side.TheVariants.{Upper, Lower}
use Rattle.hyd_spec_certificates.specs.EnclosingFunctions.{low, high}
use Rattle.hyd_spec_certificates.specs.PeriodNetwork.{all_heads}
use Rattle.hyd_spec_certificates.specs.NetOutflow.{net, link_ends}
use Rattle.hyd_period_network.specs.NetAsPeriodNetwork.{grid_of}
use Rattle.hyd_bounds.specs.VectorsInOrder.{tank_node_of}
use Rattle.hyd_bounds.proofs.FlowsInSpans.{holds-inflow}
use Rattle.hyd_bounds.proofs.InflowsInOrder.{flows-in-order}
use Rattle.hyd_bounds.proofs.inflows.tank_inflow.Goals as goal

pub invariant_of-result : goal.invariant_of-result
invariant_of-result c =
    let grid = grid_of c.args.net.now in
    let nodes = c.nodes.ensures.count in
    let tanks = c.tanks.ensures.count in
    let each = c.tanks.ensures.each in
    let given = c.requires.in_range in
    let node = c.nodes.result - c.tanks.result + c.args.tank in
    let ordered = flows-in-order grid c.junctions-junctions.ensures.steady c.args.tank node
    (length c.args.net.now.junctions) c.args.low.now c.args.high.now
    c.requires.low.one_each c.requires.high.one_each (omega (arith, nodes, tanks, given)) (omega (arith, each, given))
    c.requires.ordered in
    let low_value = c.tank_flows-least.ensures.value in
    let high_value = c.tank_flows-greatest.ensures.value in
    let low_small = c.tank_flows-least.ensures.small in
    let high_small = c.tank_flows-greatest.ensures.small in
    let few = c.row.ensures.few in
    record { ordered = omega (arith, ints, ordered, low_value, high_value, low_small, high_small, few) }

pub returns-clause-inflow : goal.returns-clause-inflow
returns-clause-inflow c =
    let grid = grid_of c.args.net.now in
    let nodes = c.nodes.ensures.count in
    let tanks = c.tanks.ensures.count in
    let given = c.requires.in_range in
    let node : c.nodes.result - c.tanks.result + c.args.tank ≡ tank_node_of c.args.net.now c.args.tank =
    omega (arith, nodes, tanks, given) in
    let ends = c.row.ensures.count ∙ ap (λ (n : ℕ). link_ends n grid.links) node in
    let low_value = c.tank_flows-least.ensures.value
    ∙ ap (λ (n : ℕ). net high low (all_heads grid (Pinned c.args.tank) Lower c.args.low.now) n grid.links) node in
    let high_value = c.tank_flows-greatest.ensures.value
    ∙ ap (λ (n : ℕ). net low high (all_heads grid (Pinned c.args.tank) Upper c.args.high.now) n grid.links) node in
    let low_small = c.tank_flows-least.ensures.small in
    let high_small = c.tank_flows-greatest.ensures.small in
    let few = c.row.ensures.few in
    record {
      lo_is = omega (arith, ints, ends, low_value, low_small, few);
      hi_is = omega (arith, ints, ends, high_value, high_small, few);
    }

pub returns-clause-small_lo : goal.returns-clause-small_lo
returns-clause-small_lo c =
    let small = c.tank_flows-least.ensures.small in
    let few = c.row.ensures.few in
    omega (arith, ints, small, few)

pub returns-clause-small_hi : goal.returns-clause-small_hi
returns-clause-small_hi c =
    let small = c.tank_flows-greatest.ensures.small in
    let few = c.row.ensures.few in
    omega (arith, ints, small, few)

pub returns-clause-holds : goal.returns-clause-holds
returns-clause-holds c =
    let net = c.args.net.now in
    holds-inflow (grid_of net) c.args.tank (tank_node_of net c.args.tank) (length net.junctions) c.args.low.now
    c.args.high.now _ c.junctions-junctions.ensures.each
    (omega arith) (returns-clause-inflow c)
