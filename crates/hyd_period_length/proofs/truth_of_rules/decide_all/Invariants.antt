use Rattle.std.proofs.Common.{◌≡◌, length}
use Rattle.std.specs.Prelude.{map}
use Rattle.hyd_spec.specs.Rules.{Readings}
use Rattle.hyd_spec_certificates.specs.SpansAsIntervals.{levels_of, flows_of}
use Rattle.hyd_controls_and_rules.specs.AlikeButTankHeads.{AreAlike}
use Rattle.hyd_controls_and_rules.specs.RuleReadings.{lower_readings, upper_readings}
use Rattle.hyd_period_length.proofs.RulesKnownSoFar.{KnownBefore}
use Rattle.hyd_period_length.proofs.truth_of_rules.decide_all.Given as goal

abbrev pub invariant-loop-rule : goal.invariant-loop-rule
invariant-loop-rule l = record {
  count : length l.values ≡ length l.fn.values;
  known : (lower upper : Readings)
      → AreAlike l.project (lower_readings l.low (map flows_of l.flows)
      (map levels_of l.levels) l.links) lower
      → AreAlike l.project (upper_readings l.high (map flows_of l.flows)
      (map levels_of l.levels) l.links) upper
      → KnownBefore l.project l.time lower upper l.rule l.values;
}
