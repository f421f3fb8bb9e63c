use Rattle.std.proofs.Common.{take}
use Rattle.hyd_period_network.specs.NetAsPeriodNetwork.{grid_of}
use Rattle.hyd_sweep.specs.Sweeps.{IsFollowing}
use Rattle.hyd_sweep.proofs.raises_in_order.raise_each.Given as goal

abbrev pub invariant-loop-i : goal.invariant-loop-i
invariant-loop-i l = IsFollowing l.held (grid_of l.net) l.problem l.side (take l.i-index l.order) l.initial.u l.u
    l.moved
