use Rattle.std.proofs.Common.{◌≡◌, ◌<◌, ◌*◌, ◌-ℤ◌, ◌≤ℤ◌, ℕ, pos, length, unsigned_abs}
use Rattle.hyd_spec.specs.Assignment.{head_at}
use Rattle.hyd_theorems_on_definitions.specs.Sides.{along}
use Rattle.hyd_sweep.proofs.strides.propose.Given as goal

abbrev pub invariant-loop-i : goal.invariant-loop-i
invariant-loop-i l = record {
  each : length l.to ≡ length l.initial.to;
  near : (k : ℕ) → k < l.i → (along l.side (head_at l.to k) -ℤ along l.side (head_at l.u k)) ≤ℤ pos (l.stride.times *
      unsigned_abs (head_at l.ways k));
}
