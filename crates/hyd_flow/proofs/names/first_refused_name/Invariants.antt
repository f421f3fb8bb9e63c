use Rattle.std.proofs.Common.{◌≡◌, ℕ, ◌<◌}
use Rattle.std.specs.Prelude.{Some, slice_get}
use Rattle.hyd_cert.specs.FlowPartView.{links_in}
use Rattle.hyd_period_network.specs.NetAsPeriodNetwork.{grid_of}
use Rattle.hyd_spec_flows.specs.FlowParts.{names_of, NameIsRefused}
use Rattle.hyd_flow.proofs.names.first_refused_name.Given as goal

-- no name so far is refused
abbrev pub invariant-loop-i : goal.invariant-loop-i
invariant-loop-i l = (k number : ℕ) → k < l.i → slice_get (names_of (links_in l.links)) k ≡ Some number
    → NameIsRefused (grid_of l.net) (links_in l.links) k number → ⊥
