use Rattle.std.proofs.Common.{◌≡◌, ◌≤◌, ◌+◌, length, take}
use Rattle.hyd_period_length.proofs.heads.put_junctions.Given as goal

abbrev pub invariant-loop-junction : goal.invariant-loop-junction
invariant-loop-junction l = record {
  heads : l.heads.list ≡ take l.junction l.junctions;
  room : length l.fn.heads.list + l.fn.heads.spare ≤ length l.heads.list + l.heads.spare;
}
