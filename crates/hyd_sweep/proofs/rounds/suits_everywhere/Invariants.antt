use Rattle.std.proofs.Common.{◌<◌, ℕ}
use Rattle.hyd_period_network.specs.NetAsPeriodNetwork.{grid_of}
use Rattle.hyd_sweep.specs.Sweeps.{SuitsAt}
use Rattle.hyd_sweep.proofs.rounds.suits_everywhere.Given as goal

abbrev pub invariant-loop-i : goal.invariant-loop-i
invariant-loop-i l = (k : ℕ) → k < l.i → SuitsAt l.held (grid_of l.net) l.problem l.side l.u k
