-- What is known of the rules at an instant of a period.
-- Source: EPANET 2.2 User Manual, chapter 3 (rule-based controls).
use Rattle.std.specs.Prelude.{◌≡◌, ℕ, Bool, false, List, map}
use Rattle.std.specs.List.{list_any}
use Rattle.hyd_spec.specs.ProgramTypes.{Project}
use Rattle.hyd_spec_certificates.specs.PeriodNetwork.{Grid}
use Rattle.hyd_spec_certificates.specs.RecordAndStanding.{Record, Standing}
use Rattle.hyd_spec_certificates.specs.ThreeValuedLogic.{is_yes, is_unknown}
use Rattle.hyd_spec_certificates.specs.Decided.{OpenRule, rule_truths}
use Rattle.hyd_period_length.specs.declared.truth_of_rules.RuleOpen.{RuleOpen}

-- some seconds after the start all rules are decided, with these values
pub record AreDecided (project : Project) (grid : Grid) (standing : Standing) (row : Record) (seconds : ℕ)
    (values : List Bool) : Type 0 where
  pub none_open : list_any is_unknown (rule_truths project grid standing row seconds) ≡ false
  pub values_are : values ≡ map is_yes (rule_truths project grid standing row seconds)

-- the open rule that was found
abbrev pub open_rule : RuleOpen → OpenRule
open_rule found = record { rule = found.rule; clause = found.clause; lo = found.lo; hi = found.hi }
