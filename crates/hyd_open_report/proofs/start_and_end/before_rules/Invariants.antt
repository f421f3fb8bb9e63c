use Rattle.std.proofs.Common.{◌≡◌, ◌+◌, drop}
use Rattle.hyd_report.specs.EventTextsAndChangesByRules.{before_rules}
use Rattle.hyd_open_report.proofs.start_and_end.before_rules.Given as goal

-- none so far is by a rule
abbrev pub invariant-loop-i : goal.invariant-loop-i
invariant-loop-i l = before_rules l.changes ≡ l.i + before_rules (drop l.i l.changes)
