use Rattle.std.proofs.Common.{◌≡◌, ◌<◌, ℕ, ◌+ℤ◌, length}
use Rattle.hyd_spec.specs.Assignment.{head_at}
use Rattle.hyd_spec_witnesses.specs.WitnessText.{IsValue}
use Rattle.hyd_middle_flows.proofs.heads.put_each_head.Given as goal

-- the heads so far lie between
abbrev pub invariant-loop-place : goal.invariant-loop-place
invariant-loop-place l = record {
  each : length l.into ≡ length l.initial.into;
  between : (k : ℕ) → k < l.place → head_at l.into k ≡ head_at l.lower k +ℤ head_at l.upper k;
  small : (k : ℕ) → k < l.place → IsValue (head_at l.into k);
}
