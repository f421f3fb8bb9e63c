use Rattle.std.proofs.Common.{◌≡◌, ◌∙◌, subst, ap, w64, to_z, of_z, arith, ℤ, pos, List}
use Rattle.std.specs.Int.{w128}
use Rattle.std.specs.Prelude.{slice_set}
use Rattle.std.proofs.lemmas.Int.{ints}
use Rattle.std.proofs.lemmas.List.{set-get_or}
use Rattle.hyd_spec_certificates.specs.NetOutflow.{net_high}
use Rattle.hyd_period_network.specs.NetAsPeriodNetwork.{grid_of}
use Rattle.hyd_vector_check.proofs.junction_test.net_high.Goals as goal

pub returns-clause-value : goal.returns-clause-value
returns-clause-value c junction at =
    let u = c.args.u.now in
    let here : to_z w64 (of_z w64 c.head_of.result) ≡ c.head_of.result = omega (arith, ints) in
    let whole : slice_set u c.args.i (to_z w64 (of_z w64 c.head_of.result)) ≡ u = ap (slice_set u c.args.i)
    (here ∙ c.head_of.ensures) ∙ set-get_or u c.args.i (pos 0) in
    let kept : to_z w128 (of_z w128 c.net_outflow.result) ≡ c.net_outflow.result = omega (arith, ints) in
    kept ∙ subst (λ (v : List ℤ). c.net_outflow.result ≡ net_high (grid_of c.args.net.now) c.args.problem v c.args.i
    junction) whole (c.net_outflow.ensures.value junction at)
