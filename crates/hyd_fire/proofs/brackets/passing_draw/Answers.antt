use Rattle.std.proofs.Common.{◌≡◌, ◌∙◌, w64, to_z, of_z, arith}
use Rattle.std.proofs.lemmas.Int.{ints}
use Rattle.hyd_period_network.specs.NetAsPeriodNetwork.{grid_of}
use Rattle.hyd_fire.proofs.DrawsOfHeldJunctions.{upper-draw, lower-draw}
use Rattle.hyd_fire.proofs.brackets.passing_draw.Goals as goal

pub returns-in-Upper-clause-value : goal.returns-in-Upper-clause-value
returns-in-Upper-clause-value c here at =
    let margin : c.from-needed.result ≡ c.margin.result = (let k : to_z w64 (of_z w64 c.margin.result)
    ≡ c.margin.result = omega (arith, ints) in c.from-needed.ensures ∙ k) in
    let range = c.margin.type_inv in
    let small = c.net_outflow-leaves.ensures.small in
    upper-draw c.args.side (grid_of c.args.net.now) c.args.u.now c.args.i here c.net_outflow-leaves.result
    c.margin.result _ c.in-Upper.is (c.net_outflow-leaves.ensures.value here at) c.margin.ensures
    (omega (arith, ints, margin, range, small))

pub returns-in-Lower-clause-value : goal.returns-in-Lower-clause-value
returns-in-Lower-clause-value c here at =
    let margin : c.from-needed.result ≡ c.margin.result = (let k : to_z w64 (of_z w64 c.margin.result)
    ≡ c.margin.result = omega (arith, ints) in c.from-needed.ensures ∙ k) in
    let range = c.margin.type_inv in
    let small = c.net_outflow-leaves.ensures.small in
    lower-draw c.args.side (grid_of c.args.net.now) c.args.u.now c.args.i here c.net_outflow-leaves.result
    c.margin.result _ c.in-Lower.is (c.net_outflow-leaves.ensures.value here at) c.margin.ensures
    (omega (arith, ints, margin, range, small))
