use Rattle.std.proofs.Common.{length, ◌-◌}
use Rattle.hyd_lex.proofs.RowsByLine.{IsAt}
use Rattle.hyd_lex.proofs.lines.Lines.next.Given as goal

abbrev pub invariant-loop-self : goal.invariant-loop-self
invariant-loop-self l = IsAt l.fn.self l.self-inside.text.now l.self-inside.at l.self-inside.number l.self-inside.region

abbrev pub decreases-loop-self : goal.decreases-loop-self
decreases-loop-self l = length l.self-inside.text.now - l.self-inside.at
