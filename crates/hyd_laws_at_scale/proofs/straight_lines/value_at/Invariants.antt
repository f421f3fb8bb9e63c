use Rattle.hyd_law.specs.KnotsOfStraightLines.{places}
use Rattle.hyd_laws_at_scale.specs.Scales.{parts_of}
use Rattle.hyd_laws_at_scale.proofs.LineAtScale.{WalkedTo}
use Rattle.hyd_laws_at_scale.proofs.straight_lines.value_at.Given as goal

abbrev pub invariant-loop-i : goal.invariant-loop-i
invariant-loop-i l = WalkedTo (parts_of l.scale) (places l.knots) l.fn.d l.i
