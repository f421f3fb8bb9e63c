use Rattle.std.proofs.Common.{Bool}
use Rattle.hyd_period_network.specs.NetAsPeriodNetwork.{grid_of}
use Rattle.hyd_sweep.specs.Sweeps.{IsFollowing, numbers}
use Rattle.hyd_sweep.proofs.rounds.round.Given as goal

abbrev pub invariant-loop-i : goal.invariant-loop-i
invariant-loop-i l = (moved : Bool) × IsFollowing l.held (grid_of l.net) l.problem l.side (numbers l.i) l.initial.u
    l.u moved
