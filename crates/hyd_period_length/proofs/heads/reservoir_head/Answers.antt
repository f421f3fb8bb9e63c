use Rattle.std.proofs.Common.{◌≡◌, ap, ℕ, ◌+◌, ◌∙◌, ◌++◌, length, to_z, of_z, FitsSigned, w64}
use Rattle.std.proofs.lemmas.Int.{to_z-of_z}
use Rattle.hyd_spec.specs.Assignment.{head_at}
use Rattle.hyd_spec_certificates.specs.PeriodNetwork.{fixed_heads}
use Rattle.hyd_spec_certificates.specs.declared.Problem.TheVariants.{Main}
use Rattle.hyd_spec_certificates.specs.declared.Side.TheVariants.{Lower}
use Rattle.hyd_period_network.specs.NetAsPeriodNetwork.{grid_of}
use Rattle.hyd_theorems_on_definitions.proofs.HeadLists.{heads_of, head_behind, head_before, heads_of-length}
use Rattle.hyd_period_length.proofs.HeadsAndFlowsSoFar.{reservoir_is}
use Rattle.hyd_period_length.proofs.heads.reservoir_head.Goals as goal

pub returns : goal.returns
returns c =
    let net = c.args.net.now in
    let fits : FitsSigned w64 c.fixed.result = record { sfits = c.fixed.type_inv } in
    let value : c.fixed.result ≡ head_at net.reservoirs c.args.reservoir =
    c.fixed.ensures.value (heads_of net.junctions) (heads_of-length net.junctions)
    ∙ (ap (λ (n : ℕ). head_at (heads_of net.junctions ++ fixed_heads (grid_of net) Main Lower)
    (n + c.args.reservoir)) c.junctions.ensures.count
    ∙ head_behind (heads_of net.junctions) (fixed_heads (grid_of net) Main Lower)
    (length net.junctions) c.args.reservoir (heads_of-length net.junctions)
    ∙ head_before net.reservoirs _ c.args.reservoir c.requires) in
    reservoir_is net.reservoirs c.args.reservoir (to_z w64 (of_z w64 c.fixed.result)) c.requires
    (to_z-of_z w64 c.fixed.result fits ∙ value)
