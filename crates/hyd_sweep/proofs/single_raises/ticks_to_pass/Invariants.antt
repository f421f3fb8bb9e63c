use Rattle.std.proofs.Common.{ℕ, ◌-◌, ◌+◌, ◌<◌, ◌≤◌}
use Rattle.hyd_spec.specs.Assignment.{head_at}
use Rattle.hyd_period_network.specs.NetAsPeriodNetwork.{grid_of}
use Rattle.hyd_vector_check.specs.NetOutflowBySide.{PassesWith}
use Rattle.hyd_sweep.specs.Sweeps.{further}
use Rattle.hyd_sweep.proofs.single_raises.ticks_to_pass.Given as goal

-- none below `low` passes, all from `high` on pass
abbrev pub invariant-loop-low : goal.invariant-loop-low
invariant-loop-low l = record {
  ordered : l.low ≤ l.high;
  at_most : l.high ≤ l.room + 1;
  before : (k : ℕ) → k < l.low → PassesWith (grid_of l.net) l.problem l.side l.u l.i
      (further l.side (head_at l.u l.i) k) → ⊥;
  after : (k : ℕ) → l.high ≤ k → k ≤ l.room → PassesWith (grid_of l.net) l.problem l.side l.u l.i
      (further l.side (head_at l.u l.i) k);
}

abbrev pub decreases-loop-low : goal.decreases-loop-low
decreases-loop-low l = l.high - l.low
