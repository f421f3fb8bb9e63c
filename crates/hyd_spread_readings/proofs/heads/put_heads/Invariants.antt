use Rattle.std.proofs.Common.{◌≡◌, ◌≤◌, ◌+◌, ◌++◌, length, take}
use Rattle.hyd_spread_readings.proofs.heads.put_heads.Given as goal

abbrev pub invariant-loop-node : goal.invariant-loop-node
invariant-loop-node l = record {
  lows_count : length l.lows.list ≡ l.node;
  highs_count : length l.highs.list ≡ l.node;
  lows : l.lows.list ≡ take l.node (l.low ++ l.lower.reservoirs);
  highs : l.highs.list ≡ take l.node (l.high ++ l.upper.reservoirs);
  low_room : length l.fn.lows.list + l.fn.lows.spare ≤ length l.lows.list + l.lows.spare;
  high_room : length l.fn.highs.list + l.fn.highs.spare ≤ length l.highs.list + l.highs.spare;
}
