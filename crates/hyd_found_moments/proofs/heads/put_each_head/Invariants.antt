use Rattle.std.specs.Prelude.{ℕ}
use Rattle.hyd_spec_witnesses.specs.WitnessText.{AreValues}
use Rattle.hyd_found_moments.proofs.heads.put_each_head.Given as goal

-- they are values as far as they were
abbrev pub invariant-loop-place : goal.invariant-loop-place
invariant-loop-place l = (count : ℕ) → AreValues count l.initial.into → AreValues count l.into
