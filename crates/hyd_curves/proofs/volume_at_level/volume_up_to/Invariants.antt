use Rattle.std.proofs.Common.{length}
use Rattle.hyd_curves.proofs.TankCurveTestLemmas.{IsWalked}
use Rattle.hyd_curves.proofs.volume_at_level.volume_up_to.Given as goal

abbrev pub invariant-loop-next : goal.invariant-loop-next
invariant-loop-next l = IsWalked l.us l.points l.fn.level l.first l.left

abbrev pub decreases-loop-next : goal.decreases-loop-next
decreases-loop-next l = length l.left
