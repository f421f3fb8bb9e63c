use Rattle.std.proofs.Common.{length, ◌-◌}
use Rattle.hyd_spread_rows.specs.SpreadsRead.{HasRead}
use Rattle.hyd_spread_rows.proofs.reader.read_rows.Given as goal

abbrev pub invariant-loop-at : goal.invariant-loop-at
invariant-loop-at l = HasRead l.project l.text l.at l.number l.tables

abbrev pub decreases-loop-at : goal.decreases-loop-at
decreases-loop-at l = length l.text - l.at
