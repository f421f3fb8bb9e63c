use Rattle.std.proofs.Common.{◌≡◌, ◌++◌, map, drop}
use Rattle.hyd_test_helpers.proofs.Commands.{start_of}
use Rattle.hyd_test_helpers.proofs.states.starts.Given as goal

abbrev pub invariant-loop-link : goal.invariant-loop-link
invariant-loop-link l = l.states.items ++ map start_of (drop l.link-index l.links) ≡ map start_of l.links
