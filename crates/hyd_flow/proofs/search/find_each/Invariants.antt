use Rattle.std.proofs.Common.{◌≡◌, All, take}
use Rattle.hyd_cert.specs.RecordView.{row_of}
use Rattle.hyd_cert.specs.FlowPartView.{links_in}
use Rattle.hyd_cert.specs.declared.named_vectors.NamedVectors.{NamedVectors}
use Rattle.hyd_period_network.specs.NetAsPeriodNetwork.{grid_of}
use Rattle.hyd_spec_certificates.specs.declared.Side.{Side}
use Rattle.hyd_spec_flows.specs.FlowParts.{HasItsVector, IsSharpPart}
use Rattle.hyd_flow.proofs.NamesInParts.{numbers}
use Rattle.hyd_flow.proofs.search.find_each.Given as goal

-- the vectors of the links so far were found
abbrev pub invariant-loop-i : goal.invariant-loop-i
invariant-loop-i l = record {
  vectors : All (λ named. (side : Side) → HasItsVector (grid_of l.net) (row_of l.row) named side)
      (links_in (take l.i l.links));
  near : IsSharpPart l.rounds (grid_of l.net) (row_of l.row) (links_in (take l.i l.links));
  names : numbers l.links ≡ numbers l.fn.links;
  junctions : All (λ (one : NamedVectors). one.junctions ≡ l.row.junctions) l.links;
  room : l.search ≡ l.fn.search;
}
