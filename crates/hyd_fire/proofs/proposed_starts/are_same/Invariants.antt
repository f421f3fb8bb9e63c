use Rattle.std.proofs.Common.{◌≡◌, ◌<◌, ℕ}
use Rattle.hyd_spec.specs.Assignment.{head_at}
use Rattle.hyd_fire.proofs.proposed_starts.are_same.Given as goal

abbrev pub invariant-loop-i : goal.invariant-loop-i
invariant-loop-i l = record {
  same : (k : ℕ) → k < l.i → head_at l.heads k ≡ head_at l.to k;
}
