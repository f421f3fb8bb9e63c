use Rattle.std.proofs.Common.{◌<◌, ℕ, ◌-ℤ◌, ◌≤ℤ◌}
use Rattle.hyd_spec.specs.Assignment.{head_at}
use Rattle.hyd_open_sim_start.proofs.narrow_vectors.are_within.Given as goal

abbrev pub invariant-loop-j : goal.invariant-loop-j
invariant-loop-j l = (k : ℕ) → k < l.j → (head_at l.upper k -ℤ head_at l.lower k) ≤ℤ l.most
