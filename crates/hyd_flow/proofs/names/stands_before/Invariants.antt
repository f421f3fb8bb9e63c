use Rattle.std.proofs.Common.{◌≡◌, ℕ, ◌<◌}
use Rattle.std.specs.Prelude.{Some, slice_get}
use Rattle.hyd_cert.specs.FlowPartView.{links_in}
use Rattle.hyd_spec_flows.specs.FlowParts.{names_of}
use Rattle.hyd_flow.proofs.names.stands_before.Given as goal

-- none so far has that number
abbrev pub invariant-loop-i : goal.invariant-loop-i
invariant-loop-i l = (k : ℕ) → k < l.i → slice_get (names_of (links_in l.links)) k ≡ Some l.link → ⊥
