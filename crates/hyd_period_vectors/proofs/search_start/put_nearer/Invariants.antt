use Rattle.std.proofs.Common.{◌≡◌, ◌<◌, ℕ, length}
use Rattle.hyd_spec.specs.Assignment.{head_at}
use Rattle.hyd_spec_certificates.specs.Certificate.{IsInBox}
use Rattle.hyd_sweep.specs.Leaps.{nearer}
use Rattle.hyd_period_vectors.proofs.search_start.put_nearer.Given as goal

abbrev pub invariant-loop-i : goal.invariant-loop-i
invariant-loop-i l = record {
  each : length l.heads ≡ length l.initial.heads;
  short : (k : ℕ) → k < l.i → head_at l.heads k ≡ nearer l.side (head_at l.to k);
  in_box : (k : ℕ) → k < l.i → IsInBox (head_at l.heads k);
  to_in_box : (k : ℕ) → k < l.i → IsInBox (head_at l.to k);
}
