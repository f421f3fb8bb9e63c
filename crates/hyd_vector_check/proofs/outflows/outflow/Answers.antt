use Rattle.std.proofs.Common.{◌≡◌, ◌∙◌, subst, w64, to_z, of_z, arith, ◌+ℤ◌, ◌-ℤ◌}
use Rattle.std.specs.Int.{w128}
use Rattle.std.specs.Prelude.{Option}
use Rattle.std.specs.Option.{IfSome, option_map, option_copied}
use Rattle.std.proofs.lemmas.Int.{ints}
use Rattle.hyd_spec_certificates.specs.PeriodNetwork.{GridJunction}
use Rattle.hyd_period_network.specs.Demands.{demand_of_law}
use Rattle.hyd_period_network.specs.NetAsPeriodNetwork.{capacity_of}
use Rattle.hyd_vector_check.proofs.OutflowsBySide.{outflow-is}
use Rattle.hyd_vector_check.proofs.outflows.outflow.Goals as goal

pub returns-clause-value : goal.returns-clause-value
returns-clause-value c junction at =
    let law = c.demand_law.result.now in
    let emitter = option_map capacity_of (option_copied c.emitter_law.result) in
    let elevation : c.elevation.result ≡ junction.elevation =
    subst (λ (o : Option GridJunction). IfSome o (λ j. c.elevation.result ≡ j.elevation)) at c.elevation.ensures.value
    in
    let demand : junction.demand ≡ demand_of_law law =
    subst (λ (o : Option GridJunction). IfSome o (λ j. j.demand ≡ demand_of_law law)) at c.demand_law.ensures.grid in
    let emits : junction.emitter ≡ emitter =
    subst (λ (o : Option GridJunction). IfSome o (λ j. j.emitter ≡ emitter)) at c.emitter_law.ensures.grid in
    let p = to_z w64 (of_z w64 c.difference-pressure.result) in
    let low = c.requires.in_box.above_floor in
    let top = c.requires.in_box.below_ceiling in
    let range-low = c.elevation.ensures.range.at_least in
    let range-top = c.elevation.ensures.range.at_most in
    let p-value = c.difference-pressure.ensures.value in
    let p-is : p ≡ c.args.head -ℤ junction.elevation = omega (arith, ints, elevation, p-value, range-low, range-top) in
    let d-small = c.demand_flow.ensures.small in
    let e-small = c.emitter_flow.ensures.small in
    let sum : to_z w128 (of_z w128 (to_z w128 (of_z w128 c.demand_flow.result) +ℤ to_z w128 (of_z w128
    c.emitter_flow.result))) ≡ c.demand_flow.result +ℤ c.emitter_flow.result =
    omega (arith, ints, d-small, e-small) in
    sum ∙ outflow-is c.args.side junction c.args.head p c.demand_flow.result c.emitter_flow.result (demand_of_law law)
    emitter p-is demand emits
    (λ e. c.demand_flow.ensures.low (c.is_lower.ensures ∙ e) ∙ c.demand_law.ensures.low p)
    (λ e. c.demand_flow.ensures.high (c.is_lower.ensures ∙ e) ∙ c.demand_law.ensures.high p)
    (λ e. c.emitter_flow.ensures.low (c.is_lower-2.ensures ∙ e))
    (λ e. c.emitter_flow.ensures.high (c.is_lower-2.ensures ∙ e))
