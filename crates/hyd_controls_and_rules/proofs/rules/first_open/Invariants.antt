use Rattle.std.proofs.Common.{◌≡◌, ℕ, ◌<◌, false, slice_index_or}
use Rattle.hyd_spec.specs.ProgramTypes.{RuleClause}
use Rattle.hyd_controls_and_rules.specs.KnownOfRules.{is_open}
use Rattle.hyd_controls_and_rules.proofs.rules.first_open.Given as goal

abbrev pub invariant-loop-number : goal.invariant-loop-number
invariant-loop-number l = (k : ℕ) (d : RuleClause) → k < l.number
    → is_open l.instant (slice_index_or l.clauses k d) ≡ false
