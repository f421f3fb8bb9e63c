use Rattle.std.proofs.Common.{◌≡◌, drop}
use Rattle.hyd_controls_and_rules.specs.RuleReadings.{verdict_there}
use Rattle.hyd_controls_and_rules.specs.KnownOfRules.{rule_there, premise_of}
use Rattle.hyd_controls_and_rules.proofs.rules.rule_verdict.Given as goal

abbrev pub invariant-loop-row : goal.invariant-loop-row
invariant-loop-row l = premise_of (verdict_there l.instant) l.premise
    (drop l.row-index l.clauses) ≡ rule_there l.instant l.rule
