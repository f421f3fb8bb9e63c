use Rattle.std.proofs.Common.{◌≡◌, ◌<◌, ◌≤◌, ◌-ℤ◌, ℕ, length}
use Rattle.hyd_spec.specs.Assignment.{head_at}
use Rattle.hyd_sweep.proofs.strides.put_ways.Given as goal

abbrev pub invariant-loop-i : goal.invariant-loop-i
invariant-loop-i l = record {
  each : length l.ways ≡ length l.initial.ways;
  done : (k : ℕ) → k < l.i → head_at l.ways k ≡ (head_at l.u k -ℤ head_at l.initial.ways k);
  left : (k : ℕ) → l.i ≤ k → head_at l.ways k ≡ head_at l.initial.ways k;
}
