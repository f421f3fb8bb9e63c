use Rattle.std.proofs.Common.{◌≡◌, ◌++◌, length, take, drop, map, List}
use Rattle.hyd_num.specs.Rational.{Rational}
use Rattle.hyd_spec.specs.Rules.{rule_holds}
use Rattle.hyd_laws_at_scale.specs.Scales.{parts_of}
use Rattle.hyd_rules_at_scale.specs.Instants.{AreLevels, readings_at}
use Rattle.hyd_rules_at_scale.proofs.rules.put_values.Given as goal

abbrev pub invariant-loop-number : goal.invariant-loop-number
invariant-loop-number l = record {
  count : length l.values ≡ length l.rules;
  values : (levels : List Rational) → AreLevels l.instant.levels.now levels
      → take l.number l.values ++ map (rule_holds l.instant.project.now (parts_of l.instant.scale) l.instant.time
      (readings_at l.instant levels)) (drop l.number l.rules)
      ≡ map (rule_holds l.instant.project.now (parts_of l.instant.scale) l.instant.time
      (readings_at l.instant levels)) l.rules;
}
