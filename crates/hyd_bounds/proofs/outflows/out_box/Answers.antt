use Rattle.std.proofs.Common.{◌≡◌, ◌∙◌, ap, w64, to_z, of_z, arith, ℤ, ◌+ℤ◌, ◌-ℤ◌}
use Rattle.std.specs.Int.{w128}
use Rattle.std.specs.Option.{option_map, option_copied}
use Rattle.std.proofs.lemmas.Int.{ints}
use Rattle.hyd_spec_certificates.specs.NetOutflow.{outflow_low, outflow_high}
use Rattle.hyd_period_network.specs.NetAsPeriodNetwork.{grid_of, capacity_of}
use Rattle.hyd_bounds.proofs.FlowsInSpans.{holds-outflow}
use Rattle.hyd_bounds.proofs.OutflowBoxes.{out-box-at, outflows-in-order}
use Rattle.hyd_bounds.proofs.outflows.out_box.Goals as goal

pub invariant_of-result : goal.invariant_of-result
invariant_of-result c =
    let grid = grid_of c.args.net.now in
    let each = c.junctions-junctions.ensures.each in
    let given = c.requires.in_range in
    let low_kept : to_z w64 (of_z w64 c.args.low) ≡ c.args.low = omega (arith, ints) in
    let high_kept : to_z w64 (of_z w64 c.args.high) ≡ c.args.high = omega (arith, ints) in
    let ordered = outflows-in-order grid c.junctions-junctions.ensures.steady c.args.junction c.args.low c.args.high
    c.outflow.result c.outflow-2.result
    (omega (arith, each, given)) c.requires.ordered
    (λ j at. c.outflow.ensures.value j at ∙ ap (outflow_low j) low_kept) (λ j at. c.outflow-2.ensures.value j at ∙ ap
    (outflow_high j) high_kept) in
    let low_small = c.outflow.ensures.small in
    let high_small = c.outflow-2.ensures.small in
    let least = c.missed-missed.ensures.least in
    let few = c.missed-missed.ensures.small in
    record { ordered = omega (arith, ints, ordered, low_small, high_small, least, few) }

pub returns-clause-outflow : goal.returns-clause-outflow
returns-clause-outflow c =
    let grid = grid_of c.args.net.now in
    let each = c.junctions-junctions.ensures.each in
    let given = c.requires.in_range in
    let low_kept : to_z w64 (of_z w64 c.args.low) ≡ c.args.low = omega (arith, ints) in
    let high_kept : to_z w64 (of_z w64 c.args.high) ≡ c.args.high = omega (arith, ints) in
    let low_small = c.outflow.ensures.small in
    let high_small = c.outflow-2.ensures.small in
    let few = c.missed-missed.ensures.small in
    let m = c.missed-missed.result in
    let lo : to_z w128 (of_z w128 (to_z w128 (of_z w128 c.outflow.result) -ℤ to_z w128 (of_z w128 m))) ≡
    (c.outflow.result -ℤ m) = omega (arith, ints, low_small, few) in
    let hi : to_z w128 (of_z w128 (to_z w128 (of_z w128 c.outflow-2.result) +ℤ to_z w128 (of_z w128 m))) ≡
    (c.outflow-2.result +ℤ m) = omega (arith, ints, high_small, few) in
    out-box-at grid.junctions c.args.junction (option_map capacity_of (option_copied c.emitter_law.result)) c.args.low
    c.args.high m _
    (omega (arith, each, given)) c.emitter_law.ensures.grid c.missed-missed.ensures.value
    (λ j at. lo ∙ ap (λ (q : ℤ). q -ℤ m) (c.outflow.ensures.value j at ∙ ap (outflow_low j) low_kept))
    (λ j at. hi ∙ ap (λ (q : ℤ). q +ℤ m) (c.outflow-2.ensures.value j at ∙ ap (outflow_high j) high_kept))

pub returns-clause-small_lo : goal.returns-clause-small_lo
returns-clause-small_lo c =
    let small = c.outflow.ensures.small in
    let few = c.missed-missed.ensures.small in
    omega (arith, ints, small, few)

pub returns-clause-small_hi : goal.returns-clause-small_hi
returns-clause-small_hi c =
    let small = c.outflow-2.ensures.small in
    let few = c.missed-missed.ensures.small in
    omega (arith, ints, small, few)

pub returns-clause-holds : goal.returns-clause-holds
returns-clause-holds c =
    let each = c.junctions-junctions.ensures.each in
    let given = c.requires.in_range in
    holds-outflow (grid_of c.args.net.now) c.args.junction c.args.low c.args.high _ (omega (arith, each, given))
    (returns-clause-outflow c)
