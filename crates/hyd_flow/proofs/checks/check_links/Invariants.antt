use Rattle.std.proofs.Common.{All, take}
use Rattle.hyd_cert.specs.RecordView.{row_of}
use Rattle.hyd_cert.specs.FlowPartView.{links_in}
use Rattle.hyd_period_network.specs.NetAsPeriodNetwork.{grid_of}
use Rattle.hyd_spec_certificates.specs.declared.Side.{Side}
use Rattle.hyd_spec_flows.specs.FlowParts.{HasItsVector}
use Rattle.hyd_flow.proofs.checks.check_links.Given as goal

-- the links so far have their vectors
abbrev pub invariant-loop-i : goal.invariant-loop-i
invariant-loop-i l =
    All (λ named. (side : Side) → HasItsVector (grid_of l.net) (row_of l.row) named side) (links_in (take l.i l.links))
