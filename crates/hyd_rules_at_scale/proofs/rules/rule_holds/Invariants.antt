use Rattle.std.proofs.Common.{◌≡◌, drop, List}
use Rattle.hyd_num.specs.Rational.{Rational}
use Rattle.hyd_spec.specs.Rules.{clause_holds, rule_holds}
use Rattle.hyd_laws_at_scale.specs.Scales.{parts_of}
use Rattle.hyd_rules_at_scale.specs.Instants.{AreLevels, readings_at}
use Rattle.hyd_rules_at_scale.specs.Premises.{premise_of}
use Rattle.hyd_rules_at_scale.proofs.rules.rule_holds.Given as goal

abbrev pub invariant-loop-row : goal.invariant-loop-row
invariant-loop-row l = (levels : List Rational) → AreLevels l.instant.levels.now levels
    → premise_of (clause_holds l.instant.project.now (parts_of l.instant.scale) l.instant.time
    (readings_at l.instant levels)) l.premise (drop l.row-index l.clauses)
    ≡ rule_holds l.instant.project.now (parts_of l.instant.scale) l.instant.time (readings_at l.instant levels) l.rule
