use Rattle.std.proofs.Common.{length, ◌-◌}
use Rattle.hyd_spread_rows.specs.LinesThatCount.{HasHeard}
use Rattle.hyd_spread_rows.proofs.lines_that_count.last_lines.Given as goal

abbrev pub invariant-loop-at : goal.invariant-loop-at
invariant-loop-at l = HasHeard l.subject l.id l.text l.at l.number l.last

abbrev pub decreases-loop-at : goal.decreases-loop-at
decreases-loop-at l = length l.text - l.at
