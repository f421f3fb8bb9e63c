use Rattle.hyd_open_stocks.proofs.LevelsOnCurve.{HasCome}
use Rattle.hyd_known_stocks.proofs.volumes.volume_at.Given as goal

abbrev pub invariant-loop-i : goal.invariant-loop-i
invariant-loop-i l = HasCome l.points l.fn.level l.i
