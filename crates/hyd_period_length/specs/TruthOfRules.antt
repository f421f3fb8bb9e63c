-- What is known of all rules at an instant, where what they look at lies between two readings.
-- Source: EPANET 2.2 User Manual, appendix C ([RULES]), by Kleene 1952 (strong three-valued logic).
use Rattle.std.specs.Prelude.{◌≡◌, ℕ, Bool, false, List, Some, map, slice_get, position}
use Rattle.std.specs.List.{list_any}
use Rattle.hyd_spec.specs.ProgramTypes.{Project, Rule}
use Rattle.hyd_spec.specs.Rules.{Readings}
use Rattle.hyd_spec_certificates.specs.declared.Verdict.{Verdict}
use Rattle.hyd_spec_certificates.specs.declared.Verdict.TheVariants.{Unknown}
use Rattle.hyd_spec_certificates.specs.ThreeValuedLogic.{is_yes, is_unknown}
use Rattle.hyd_spec_certificates.specs.Decided.{rule_between, IsOpenClause}
use Rattle.hyd_period_length.specs.declared.truth_of_rules.RuleOpen.{RuleOpen}

-- what is known of each rule, in order
abbrev pub truths_between : Project → ℕ → Readings → Readings → List Verdict
truths_between project time below above = map (rule_between project time below above) project.rules.list

-- a rule is decided, with this value
pub record IsKnown (project : Project) (time : ℕ) (below above : Readings) (rule : Rule) (value : Bool) : Type 0 where
  pub decided : is_unknown (rule_between project time below above rule) ≡ false
  pub value_is : value ≡ is_yes (rule_between project time below above rule)

-- a rule of a number is open, by its first clause that is open by itself
pub record IsOpen (project : Project) (time : ℕ) (below above : Readings) (number : ℕ) (rule : Rule)
    (found : RuleOpen) : Type 0 where
  pub is_open : rule_between project time below above rule ≡ Unknown
  pub number_is : found.rule ≡ number
  pub clause_is : IsOpenClause project time below above rule found.clause found.lo found.hi

-- all rules are decided, with these values
pub record AreKnown (project : Project) (time : ℕ) (below above : Readings) (values : List Bool) : Type 0 where
  pub none_open : list_any is_unknown (truths_between project time below above) ≡ false
  pub values_are : values ≡ map is_yes (truths_between project time below above)

-- the first rule that is open, and its first clause that is open by itself
pub record IsFirstOpen (project : Project) (time : ℕ) (below above : Readings) (found : RuleOpen) : Type 0 where
  pub first_rule : position is_unknown (truths_between project time below above) ≡ Some found.rule
  pub rule : Rule
  pub is_rule : slice_get project.rules.list found.rule ≡ Some rule
  pub clause_is : IsOpenClause project time below above rule found.clause found.lo found.hi
