use Rattle.std.proofs.Common.{◌≡◌, take}
use Rattle.hyd_build_nodes_patterns_and_options.proofs.junctions.copied.Given as goal

abbrev pub invariant-loop-place : goal.invariant-loop-place
invariant-loop-place l = l.list.list ≡ take l.place l.items
