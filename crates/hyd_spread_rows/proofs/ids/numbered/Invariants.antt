use Rattle.std.proofs.Common.{◌≡◌, take}
use Rattle.hyd_spread_rows.proofs.ids.numbered.Given as goal

abbrev pub invariant-loop-number : goal.invariant-loop-number
invariant-loop-number l = l.ids ≡ take l.number l.project.node_ids
