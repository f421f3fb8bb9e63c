use Rattle.std.proofs.Common.{◌≡◌}
use Rattle.hyd_build_nodes_patterns_and_options.proofs.patterns.listed.Given as goal

abbrev pub invariant-loop-pattern : goal.invariant-loop-pattern
invariant-loop-pattern l = l.list.list ≡ l.yielded
