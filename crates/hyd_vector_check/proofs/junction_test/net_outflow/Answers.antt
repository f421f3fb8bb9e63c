use Rattle.std.proofs.Common.{◌≡◌, ◌∙◌, sym, subst, w64, to_z, of_z, arith, ℤ, ◌+ℤ◌}
use Rattle.std.specs.Int.{w128}
use Rattle.std.specs.Prelude.{slice_set}
use Rattle.std.proofs.lemmas.Int.{ints}
use Rattle.hyd_spec.specs.Assignment.{head_at}
use Rattle.hyd_spec_certificates.specs.PeriodNetwork.{all_heads}
use Rattle.hyd_period_network.specs.NetAsPeriodNetwork.{grid_of}
use Rattle.hyd_vector_check.specs.NetOutflowBySide.{flows_out, outflow}
use Rattle.hyd_vector_check.proofs.HeadsWithOneReplaced.{own-head}
use Rattle.hyd_vector_check.proofs.OutflowsBySide.{net-is}
use Rattle.hyd_vector_check.proofs.junction_test.net_outflow.Goals as goal

pub flows_out-requires-clause-here : goal.flows_out-requires-clause-here
flows_out-requires-clause-here c =
    let here : to_z w64 (of_z w64 c.args.head) ≡ c.args.head = omega (arith, ints) in
    subst (λ (h : ℤ). h ≡ head_at (all_heads (grid_of c.args.net.now) c.args.problem c.args.side
    (slice_set c.args.u.now c.args.i h)) c.args.i) (sym here)
    (sym (own-head (grid_of c.args.net.now) c.args.problem c.args.side c.args.u.now c.args.i c.args.head
    c.requires.inside))

pub returns-clause-value : goal.returns-clause-value
returns-clause-value c junction at =
    let grid = grid_of c.args.net.now in
    let here : to_z w64 (of_z w64 c.args.head) ≡ c.args.head = omega (arith, ints) in
    let flows = subst (λ (h : ℤ). c.flows_out.result ≡ flows_out c.args.side
    (all_heads grid c.args.problem c.args.side (slice_set c.args.u.now c.args.i h)) c.args.i grid.links) here
    c.flows_out.ensures.value in
    let out = subst (λ (h : ℤ). c.outflow.result ≡ outflow c.args.side junction h) here
    (c.outflow.ensures.value junction at) in
    let f-small = c.flows_out.ensures.small in
    let o-small = c.outflow.ensures.small in
    let sum : to_z w128 (of_z w128 (to_z w128 (of_z w128 c.flows_out.result)
    +ℤ to_z w128 (of_z w128 c.outflow.result))) ≡ c.flows_out.result +ℤ c.outflow.result =
    omega (arith, ints, f-small, o-small) in
    sum ∙ net-is c.args.side grid c.args.problem c.args.u.now c.args.i c.args.head c.flows_out.result c.outflow.result
    junction c.requires.inside flows out
