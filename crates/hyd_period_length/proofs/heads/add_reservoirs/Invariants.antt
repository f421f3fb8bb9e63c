use Rattle.std.proofs.Common.{◌≡◌, ◌≤◌, ◌+◌, ◌++◌, length, take}
use Rattle.hyd_period_length.proofs.heads.add_reservoirs.Given as goal

abbrev pub invariant-loop-reservoir : goal.invariant-loop-reservoir
invariant-loop-reservoir l = record {
  heads : l.heads.list ≡ l.fn.heads.list ++ take l.reservoir l.net.reservoirs;
  room : length l.fn.heads.list + l.fn.heads.spare ≤ length l.heads.list + l.heads.spare;
}
