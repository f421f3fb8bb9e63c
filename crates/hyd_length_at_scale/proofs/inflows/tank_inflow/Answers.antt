use Rattle.std.proofs.Common.{◌*◌, ◌≤◌, ℤ, List, length, sym, subst, arith}
use Rattle.std.specs.Int.{w128}
use Rattle.std.specs.List.{All}
use Rattle.std.proofs.Math.Nat.{mul-le-mul_right}
use Rattle.std.proofs.lemmas.Int.{ints, to_z-of_z}
use Rattle.hyd_period_network.specs.Demands.{IsNetJunction}
use Rattle.hyd_period_network.proofs.NetOfSoundProject.{long_zipped}
use Rattle.hyd_met_flows.specs.Periods.{IsSmallFlow, flow_limit}
use Rattle.hyd_length_at_scale.proofs.inflows.tank_inflow.Goals as goal

pub net_outflow-requires-clause-there : goal.net_outflow-requires-clause-there
net_outflow-requires-clause-there c =
    let of = c.requires.of in
    let junctions = long_zipped IsNetJunction c.args.project.now.junctions.list c.args.net.now.junctions of.junctions in
    let reservoirs = of.each_reservoir in
    let tanks = of.each_tank in
    let there = c.requires.there in
    omega (arith, junctions, reservoirs, tanks, there, c.len.ensures, c.len-2.ensures)

pub returns-clause-small : goal.returns-clause-small
returns-clause-small c =
    let links = c.args.project.now.links.list in
    let flows = subst (λ (qs : List ℤ). All IsSmallFlow qs) (sym c.as_slice.ensures) c.requires.flows in
    let most = c.net_outflow.ensures.bound flow_limit flows in
    let few : length links * flow_limit ≤ 20000 * flow_limit =
    mul-le-mul_right flow_limit c.requires.sound.counts.links in
    let kept = to_z-of_z w128 c.net_outflow.result (record { sfits = c.net_outflow.type_inv }) in
    let small = c.net_outflow.ensures.small in
    omega (arith, ints, most, few, kept, small)
