use Rattle.std.proofs.Common.{◌≡◌, ◌∙◌, subst, w64, to_z, of_z, arith, ℤ, length}
use Rattle.std.proofs.lemmas.Int.{ints}
use Rattle.hyd_period_network.specs.NetAsPeriodNetwork.{grid_of}
use Rattle.hyd_vector_check.proofs.NetOutflowAboveMargin.{IsNetOutflow, upper-passes, lower-passes, upper-surplus}
use Rattle.hyd_vector_check.proofs.NetOutflowAboveMargin.{lower-surplus}
use Rattle.hyd_vector_check.proofs.junction_test.surplus.Goals as goal

pub returns-in-Upper-clause-passes : goal.returns-in-Upper-clause-passes
returns-in-Upper-clause-passes c =
    let grid = grid_of c.args.net.now in
    let here : to_z w64 (of_z w64 c.args.head) ≡ c.args.head = omega (arith, ints) in
    let value = subst (λ (h : ℤ). IsNetOutflow grid c.args.problem c.args.side c.args.u.now c.args.i h
    c.net_outflow-outflow.result) here c.net_outflow-outflow.ensures.value in
    let margin : c.from-needed.result ≡ c.margin.result = (let k : to_z w64 (of_z w64 c.margin.result)
    ≡ c.margin.result = omega (arith, ints) in c.from-needed.ensures ∙ k) in
    let range = c.margin.type_inv in
    let small = c.net_outflow-outflow.ensures.small in
    let each : length grid.junctions ≡ length c.args.net.now.junctions = c.junctions-junctions.ensures.each in
    upper-passes grid c.args.problem c.args.side c.args.u.now c.args.i c.args.head c.net_outflow-outflow.result
    c.margin.result _ c.in-Upper.is
    (let a = c.requires.inside in let b = c.requires.one_each in
    omega (arith, a, b, each)) value c.margin.ensures (omega (arith, ints, margin, range, small))

pub returns-in-Lower-clause-passes : goal.returns-in-Lower-clause-passes
returns-in-Lower-clause-passes c =
    let grid = grid_of c.args.net.now in
    let here : to_z w64 (of_z w64 c.args.head) ≡ c.args.head = omega (arith, ints) in
    let value = subst (λ (h : ℤ). IsNetOutflow grid c.args.problem c.args.side c.args.u.now c.args.i h
    c.net_outflow-outflow.result) here c.net_outflow-outflow.ensures.value in
    let margin : c.from-needed.result ≡ c.margin.result = (let k : to_z w64 (of_z w64 c.margin.result)
    ≡ c.margin.result = omega (arith, ints) in c.from-needed.ensures ∙ k) in
    let range = c.margin.type_inv in
    let small = c.net_outflow-outflow.ensures.small in
    let each : length grid.junctions ≡ length c.args.net.now.junctions = c.junctions-junctions.ensures.each in
    lower-passes grid c.args.problem c.args.side c.args.u.now c.args.i c.args.head c.net_outflow-outflow.result
    c.margin.result _ c.in-Lower.is
    (let a = c.requires.inside in let b = c.requires.one_each in
    omega (arith, a, b, each)) value c.margin.ensures (omega (arith, ints, margin, range, small))

pub returns-in-Upper-clause-value : goal.returns-in-Upper-clause-value
returns-in-Upper-clause-value c =
    let grid = grid_of c.args.net.now in
    let here : to_z w64 (of_z w64 c.args.head) ≡ c.args.head = omega (arith, ints) in
    let value = subst (λ (h : ℤ). IsNetOutflow grid c.args.problem c.args.side c.args.u.now c.args.i h
    c.net_outflow-outflow.result) here c.net_outflow-outflow.ensures.value in
    let margin : c.from-needed.result ≡ c.margin.result = (let k : to_z w64 (of_z w64 c.margin.result)
    ≡ c.margin.result = omega (arith, ints) in c.from-needed.ensures ∙ k) in
    let range = c.margin.type_inv in
    let small = c.net_outflow-outflow.ensures.small in
    upper-surplus grid c.args.problem c.args.side c.args.u.now c.args.i c.args.head c.net_outflow-outflow.result
    c.margin.result _ c.in-Upper.is
    value c.margin.ensures (omega (arith, ints, margin, range, small))

pub returns-in-Lower-clause-value : goal.returns-in-Lower-clause-value
returns-in-Lower-clause-value c =
    let grid = grid_of c.args.net.now in
    let here : to_z w64 (of_z w64 c.args.head) ≡ c.args.head = omega (arith, ints) in
    let value = subst (λ (h : ℤ). IsNetOutflow grid c.args.problem c.args.side c.args.u.now c.args.i h
    c.net_outflow-outflow.result) here c.net_outflow-outflow.ensures.value in
    let margin : c.from-needed.result ≡ c.margin.result = (let k : to_z w64 (of_z w64 c.margin.result)
    ≡ c.margin.result = omega (arith, ints) in c.from-needed.ensures ∙ k) in
    let range = c.margin.type_inv in
    let small = c.net_outflow-outflow.ensures.small in
    lower-surplus grid c.args.problem c.args.side c.args.u.now c.args.i c.args.head c.net_outflow-outflow.result
    c.margin.result _ c.in-Lower.is
    value c.margin.ensures (omega (arith, ints, margin, range, small))
