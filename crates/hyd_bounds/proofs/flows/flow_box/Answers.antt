use Rattle.std.proofs.Common.{◌≡◌, w64, to_z, of_z, arith, ◌-ℤ◌}
use Rattle.std.proofs.lemmas.Int.{ints}
use Rattle.hyd_spec.specs.Assignment.{head_at}
use Rattle.hyd_spec_certificates.specs.declared.Problem.TheVariants.{Main}
use Rattle.hyd_spec_certificates.specs.declared.Side.TheVariants.{Upper, Lower}
use Rattle.hyd_spec_certificates.specs.PeriodNetwork.{all_heads}
use Rattle.hyd_period_network.specs.NetAsPeriodNetwork.{grid_of}
use Rattle.hyd_vector_check.proofs.FlowsOfLinkEnds.{StandsFor, stands-for}
use Rattle.hyd_bounds.proofs.FlowBoxes.{flow-box-is}
use Rattle.hyd_bounds.proofs.FlowsInSpans.{holds-flow}
use Rattle.hyd_bounds.proofs.flows.flow_box.Goals as goal

there : (c : goal.After-law) → StandsFor (grid_of c.args.net.now).links c.args.link c.law.result.now
there c =
    let each = c.links-links.ensures.each in
    let given = c.requires.in_range in
    stands-for (grid_of c.args.net.now).links c.args.link c.law.result.now (omega (arith, each, given))
    c.law.ensures.stands

pub flow_between-requires-clause-sound : goal.flow_between-requires-clause-sound
flow_between-requires-clause-sound c = (there c).stands.sound

pub flow_between-requires-clause-least : goal.flow_between-requires-clause-least
flow_between-requires-clause-least c =
    let small = c.difference-least.ensures.small in
    (there c).stands.accepts _ (omega (arith, ints, small))

pub flow_between-requires-clause-greatest : goal.flow_between-requires-clause-greatest
flow_between-requires-clause-greatest c =
    let small = c.difference-greatest.ensures.small in
    (there c).stands.accepts _ (omega (arith, ints, small))

pub flow_between-requires-clause-ordered : goal.flow_between-requires-clause-ordered
flow_between-requires-clause-ordered c =
    let at_from = c.requires.ordered c.ends-ends.result.from in
    let at_to = c.requires.ordered c.ends-ends.result.to in
    let a = c.node_head.ensures.value in
    let b = c.node_head-2.ensures.value in
    let d = c.node_head-3.ensures.value in
    let e = c.node_head-4.ensures.value in
    let a_small = c.node_head.ensures.small in
    let b_small = c.node_head-2.ensures.small in
    let d_small = c.node_head-3.ensures.small in
    let e_small = c.node_head-4.ensures.small in
    let least = c.difference-least.ensures.value in
    let greatest = c.difference-greatest.ensures.value in
    omega (arith, ints, at_from, at_to, a, b, d, e, a_small, b_small, d_small, e_small, least, greatest)

pub returns-clause-flow : goal.returns-clause-flow
returns-clause-flow c =
    let grid = grid_of c.args.net.now in
    let below = all_heads grid Main Lower c.args.low.now in
    let above = all_heads grid Main Upper c.args.high.now in
    let a = c.node_head.ensures.value in
    let b = c.node_head-2.ensures.value in
    let d = c.node_head-3.ensures.value in
    let e = c.node_head-4.ensures.value in
    let a_small = c.node_head.ensures.small in
    let b_small = c.node_head-2.ensures.small in
    let d_small = c.node_head-3.ensures.small in
    let e_small = c.node_head-4.ensures.small in
    let l_value = c.difference-least.ensures.value in
    let g_value = c.difference-greatest.ensures.value in
    let least : to_z w64 (of_z w64 c.difference-least.result)
    ≡ (head_at below c.ends-ends.result.from -ℤ head_at above c.ends-ends.result.to) =
    omega (arith, ints, a, b, a_small, b_small, l_value) in
    let greatest : to_z w64 (of_z w64 c.difference-greatest.result)
    ≡ (head_at above c.ends-ends.result.from -ℤ head_at below c.ends-ends.result.to) =
    omega (arith, ints, d, e, d_small, e_small, g_value) in
    let each = c.links-links.ensures.each in
    let given = c.requires.in_range in
    flow-box-is grid.links c.args.link c.law.result.now c.ends-ends.result below above
    (to_z w64 (of_z w64 c.difference-least.result)) (to_z w64 (of_z w64 c.difference-greatest.result))
    c.flow_between.result
    (stands-for grid.links c.args.link c.law.result.now (omega (arith, each, given)) c.law.ensures.stands)
    c.ends-ends.ensures.grid least greatest c.flow_between.ensures.lo c.flow_between.ensures.hi

pub returns-clause-holds : goal.returns-clause-holds
returns-clause-holds c =
    let each = c.links-links.ensures.each in
    let given = c.requires.in_range in
    holds-flow (grid_of c.args.net.now) c.args.low.now c.args.high.now c.args.link c.flow_between.result (omega (
      arith,
      each,
      given,
    )) (returns-clause-flow c)
