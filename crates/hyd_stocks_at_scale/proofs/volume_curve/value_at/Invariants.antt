use Rattle.hyd_stocks_at_scale.proofs.LineAtPlace.{HasCome}
use Rattle.hyd_stocks_at_scale.proofs.volume_curve.value_at.Given as goal

abbrev pub invariant-loop-i : goal.invariant-loop-i
invariant-loop-i l = HasCome l.fn.known l.fn.scale l.points l.fn.x l.i
