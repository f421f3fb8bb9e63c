use Rattle.hyd_law.specs.KnotsOfStraightLines.{places}
use Rattle.hyd_law.proofs.LineAtDifference.{WalkedTo}
use Rattle.hyd_law.proofs.straight_lines.value_at.Given as goal

abbrev pub invariant-loop-i : goal.invariant-loop-i
invariant-loop-i l = WalkedTo (places l.knots) l.fn.d l.i
