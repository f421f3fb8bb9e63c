use Rattle.std.proofs.Common.{◌<◌, ℕ}
use Rattle.hyd_period_network.specs.NetAsPeriodNetwork.{grid_of}
use Rattle.hyd_vector_check.specs.NetOutflowBySide.{PassesAt}
use Rattle.hyd_vector_check.proofs.checks.first_failing.Given as goal

abbrev pub invariant-loop-i : goal.invariant-loop-i
invariant-loop-i l = (k : ℕ) → k < l.i → PassesAt (grid_of l.net) l.problem l.side l.u k
