use Rattle.std.proofs.Common.{◌<◌, ℕ}
use Rattle.hyd_period_network.specs.NetAsPeriodNetwork.{grid_of}
use Rattle.hyd_spent_rounds.specs.SpentRounds.{BoundsAt}
use Rattle.hyd_spent_rounds.proofs.bounds.is_bound.Given as goal

-- what is asked of a bound holds at the junctions so far
abbrev pub invariant-loop-i : goal.invariant-loop-i
invariant-loop-i l = (k : ℕ) → k < l.i → BoundsAt l.held (grid_of l.net) l.side l.start l.bound l.step k
