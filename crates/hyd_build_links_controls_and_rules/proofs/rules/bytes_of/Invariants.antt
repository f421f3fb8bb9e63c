use Rattle.std.proofs.Common.{◌≡◌, take}
use Rattle.hyd_build_links_controls_and_rules.proofs.rules.bytes_of.Given as goal

abbrev pub invariant-loop-k : goal.invariant-loop-k
invariant-loop-k l = l.bytes.list ≡ take l.k l.word
