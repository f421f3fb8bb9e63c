-- The head of a reservoir stands behind those of the junctions.
use Rattle.std.proofs.Common.{◌≡◌, ap, ℕ, ◌+◌, ◌∙◌, ◌++◌, length, to_z, of_z, w64, arith}
use Rattle.std.proofs.lemmas.Int.{ints}
use Rattle.hyd_spec.specs.Assignment.{head_at}
use Rattle.hyd_spec_certificates.specs.PeriodNetwork.{fixed_heads}
use Rattle.hyd_spec_certificates.specs.declared.Problem.TheVariants.{Main}
use Rattle.hyd_spec_certificates.specs.declared.Side.TheVariants.{Lower}
use Rattle.hyd_period_network.specs.NetAsPeriodNetwork.{grid_of}
use Rattle.hyd_theorems_on_definitions.proofs.HeadLists.{heads_of, head_behind, head_before, heads_of-length}
use Rattle.hyd_spread_report.proofs.reservoirs.head_in.Goals as goal

pub returns : goal.returns
returns c =
    let net = c.args.net.now in
    let small = c.fixed.ensures.small in
    let kept : to_z w64 (of_z w64 c.fixed.result) ≡ c.fixed.result = omega (arith, ints, small) in
    kept
    ∙ c.fixed.ensures.value (heads_of net.junctions) (heads_of-length net.junctions)
    ∙ (ap (λ (n : ℕ). head_at (heads_of net.junctions ++ fixed_heads (grid_of net) Main Lower)
    (n + c.args.reservoir)) c.junctions.ensures.count
    ∙ head_behind (heads_of net.junctions) (fixed_heads (grid_of net) Main Lower)
    (length net.junctions) c.args.reservoir (heads_of-length net.junctions)
    ∙ head_before net.reservoirs _ c.args.reservoir c.requires)
