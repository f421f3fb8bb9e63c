use Rattle.std.proofs.Common.{◌≡◌, ◌<◌, ℕ, length}
use Rattle.hyd_spec.specs.Assignment.{head_at}
use Rattle.hyd_spec_certificates.specs.Certificate.{IsInBox}
use Rattle.hyd_fire.specs.TurnsWithHeldJunction.{FirstHead}
use Rattle.hyd_fire.proofs.proposed_starts.put_first_heads.Given as goal

abbrev pub invariant-loop-i : goal.invariant-loop-i
invariant-loop-i l = record {
  each : length l.heads ≡ length l.initial.heads;
  first : (k : ℕ) → k < l.i → FirstHead l.held l.side k (head_at l.to k) (head_at l.heads k);
  in_box : (k : ℕ) → k < l.i → IsInBox (head_at l.heads k);
  to_in_box : (k : ℕ) → k < l.i → IsInBox (head_at l.to k);
}
