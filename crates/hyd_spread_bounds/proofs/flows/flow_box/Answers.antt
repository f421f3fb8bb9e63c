use Rattle.std.proofs.Common.{◌≡◌, ◌∙◌, ap, w64, to_z, of_z, arith, ℤ, pos, ◌+ℤ◌, ◌-ℤ◌}
use Rattle.std.proofs.lemmas.Int.{ints}
use Rattle.hyd_spec.specs.Scale.{missed_flow_ticks}
use Rattle.hyd_spec_certificates.specs.declared.Problem.TheVariants.{Main}
use Rattle.hyd_law.specs.LinkLaws.{link_low, link_high}
use Rattle.hyd_period_network.specs.NetAsPeriodNetwork.{grid_of}
use Rattle.hyd_vector_check.proofs.FlowsOfLinkEnds.{StandsFor, stands-for}
use Rattle.hyd_spread_bounds.specs.BothSides.{pair_of, all_below, all_above}
use Rattle.hyd_spread_bounds.proofs.FlowsOfBothSides.{differences-ordered, flow-is}
use Rattle.hyd_spread_bounds.proofs.flows.flow_box.Goals as goal

there : (c : goal.After-struct_told-2-1) → StandsFor (grid_of c.args.upper.now).links c.args.link c.law.result.now
there c =
    let each = c.links-links.ensures.each in
    let given = c.requires.in_range in
    stands-for (grid_of c.args.upper.now).links c.args.link c.law.result.now (omega (arith, each, given))
    c.law.ensures.stands

pub flow_between-requires-clause-least : goal.flow_between-requires-clause-least
flow_between-requires-clause-least c =
    let small = c.difference_span-span.ensures.small_lo in
    (there c).stands.accepts _ (omega (arith, ints, small))

pub flow_between-requires-clause-greatest : goal.flow_between-requires-clause-greatest
flow_between-requires-clause-greatest c =
    let small = c.difference_span-span.ensures.small_hi in
    (there c).stands.accepts _ (omega (arith, ints, small))

pub flow_between-requires-clause-ordered : goal.flow_between-requires-clause-ordered
flow_between-requires-clause-ordered c =
    let pair = pair_of c.args.upper.now c.args.lower.now in
    let order = differences-ordered (grid_of c.args.upper.now).links c.args.link c.law.result.now
    (all_below pair Main c.args.low.now) (all_above pair Main c.args.high.now) _ _ (there c)
    c.difference_span-span.ensures.value c.requires.ordered in
    let lo_small = c.difference_span-span.ensures.small_lo in
    let hi_small = c.difference_span-span.ensures.small_hi in
    omega (arith, ints, order, lo_small, hi_small)

pub returns-clause-flow : goal.returns-clause-flow
returns-clause-flow c =
    let pair = pair_of c.args.upper.now c.args.lower.now in
    let law = c.law.result.now in
    let least = c.difference_span-span.result.lo in
    let greatest = c.difference_span-span.result.hi in
    let each = c.links-links.ensures.each in
    let given = c.requires.in_range in
    let lo_small = c.difference_span-span.ensures.small_lo in
    let hi_small = c.difference_span-span.ensures.small_hi in
    let lo_kept : to_z w64 (of_z w64 least) ≡ least = omega (arith, ints, lo_small) in
    let hi_kept : to_z w64 (of_z w64 greatest) ≡ greatest = omega (arith, ints, hi_small) in
    flow-is (grid_of c.args.upper.now).links c.args.link law (all_below pair Main c.args.low.now)
    (all_above pair Main c.args.high.now) least greatest
    (stands-for (grid_of c.args.upper.now).links c.args.link law (omega (arith, each, given)) c.law.ensures.stands)
    c.difference_span-span.ensures.value c.flow_between.result
    (c.flow_between.ensures.lo ∙ ap (λ (d : ℤ). link_low law d -ℤ pos missed_flow_ticks) lo_kept)
    (c.flow_between.ensures.hi ∙ ap (λ (d : ℤ). link_high law d +ℤ pos missed_flow_ticks) hi_kept)
