use Rattle.std.proofs.Common.{◌≡◌, ◌∙◌, sym, w64, to_z, of_z, arith, ◌+ℤ◌}
use Rattle.std.specs.Int.{w128}
use Rattle.std.proofs.lemmas.Int.{ints}
use Rattle.hyd_spec_certificates.specs.declared.Problem.TheVariants.{Main}
use Rattle.hyd_period_network.specs.NetAsPeriodNetwork.{grid_of}
use Rattle.hyd_vector_check.proofs.HeadsWithOneReplaced.{own-head}
use Rattle.hyd_fire.proofs.DrawsOfHeldJunctions.{leaves-is}
use Rattle.hyd_fire.proofs.brackets.net_outflow.Goals as goal

pub flows_out-requires-clause-here : goal.flows_out-requires-clause-here
flows_out-requires-clause-here c =
    sym (own-head (grid_of c.args.net.now) Main c.args.side c.args.u.now c.args.i _ c.requires.inside)

pub returns-clause-value : goal.returns-clause-value
returns-clause-value c here at =
    let grid = grid_of c.args.net.now in
    let kept : to_z w64 (of_z w64 c.head_of-head.result) ≡ c.head_of-head.result = omega (arith, ints) in
    let f-small = c.flows_out.ensures.small in
    let o-small = c.outflow.ensures.small in
    let sum : to_z w128 (of_z w128 (to_z w128 (of_z w128 c.flows_out.result)
    +ℤ to_z w128 (of_z w128 c.outflow.result))) ≡ c.flows_out.result +ℤ c.outflow.result =
    omega (arith, ints, f-small, o-small) in
    sum ∙ leaves-is c.args.side grid c.args.u.now c.args.i _ c.flows_out.result c.outflow.result here
    c.requires.inside (kept ∙ c.head_of-head.ensures) c.flows_out.ensures.value (c.outflow.ensures.value here at)
