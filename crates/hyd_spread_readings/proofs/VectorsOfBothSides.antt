-- Certificates on both grids as vectors of the nets of both sides.
use Rattle.std.proofs.Common.{◌≡◌, ℤ, List, length, sym, subst, ◌++◌, ◌∙◌, arith}
use Rattle.std.proofs.lemmas.List.{length-append}
use Rattle.hyd_spec.specs.ProgramTypes.{Project}
use Rattle.hyd_spec.specs.NodeNumbers.{nodes_before_tanks}
use Rattle.hyd_spec_certificates.specs.declared.Problem.{Problem}
use Rattle.hyd_spec_certificates.specs.declared.Side.{Side}
use Rattle.hyd_spec_certificates.specs.Certificate.{IsCertificate}
use Rattle.hyd_period_network.specs.NetView.{NetView}
use Rattle.hyd_period_network.specs.GivenData.{IsNetButEmitters}
use Rattle.hyd_period_network.specs.NetAsPeriodNetwork.{grid_of}
use Rattle.hyd_bounds.specs.VectorsInOrder.{IsVector}
use Rattle.hyd_spread_readings.proofs.ItemsOfBothSides.{nodes-are}

-- a vector that was read out of a record
module _ (net : NetView) (problem : Problem) (side : Side) (read u : List ℤ) (same : read ≡ u)
    (is : IsCertificate (grid_of net) problem side u) where
  pub certificate-of : IsCertificate (grid_of net) problem side read
  certificate-of = subst (λ (v : List ℤ). IsCertificate (grid_of net) problem side v) (sym same) is

  pub vector-of : length (grid_of net).junctions ≡ length net.junctions → IsVector net read
  vector-of each = record { one_each = certificate-of.one_each ∙ each; in_box = certificate-of.in_box }

-- a vector and the heads of reservoirs are a head for each node but tanks
pub long-heads : (project : Project) (net : NetView) (u : List ℤ) → IsNetButEmitters project net → IsVector net u
    → length (u ++ net.reservoirs) ≡ nodes_before_tanks project
long-heads project net u of is =
    let joined = length-append u net.reservoirs in
    let own = is.one_each in
    let nodes = nodes-are project net of in
    omega (arith, joined, own, nodes)
