-- Rules of a sound network, and what is known of them at an instant.
-- Source: EPANET 2.2 User Manual, chapter 3 (rule-based controls).
use Rattle.std.specs.Prelude.{◌^◌, ◌≤◌, Bool, List, length, map, Option, Some, None}
use Rattle.hyd_net.specs.ControlsAndRules.{IsRule}
use Rattle.hyd_net.specs.RoundedFileNumbers.{IsRuleMade}
use Rattle.hyd_spec.specs.ProgramTypes.{Project, Rule, RuleClause, Clause}
use Rattle.hyd_spec.specs.Rules.{parts_of, groups_in}
use Rattle.hyd_spec_certificates.specs.declared.Verdict.{Verdict}
use Rattle.hyd_spec_certificates.specs.ThreeValuedLogic.{is_unknown, either, both, some_holds, all_hold}
use Rattle.hyd_spec_certificates.specs.Decided.{rule_between, IsTruthBetween}
use Rattle.hyd_spec_certificates.specs.declared.Truth.{Truth}
use Rattle.hyd_controls_and_rules.specs.declared.clauses.Instant.{Instant}
use Rattle.hyd_controls_and_rules.specs.declared.rules.Premise.{Premise}
use Rattle.hyd_controls_and_rules.specs.RuleReadings.{below, above, verdict_there}

-- a rule of a sound network
pub record IsSoundRule (project : Project) (rule : Rule) : Type 0 where
  pub in_range : IsRule project rule
  pub made : IsRuleMade project.options.unit rule
  pub few : length rule.clauses.list ≤ 10 ^ 5

-- a clause is open there by itself
abbrev pub is_open : Instant → RuleClause → Bool
is_open instant row = is_unknown (verdict_there instant row.clause)

-- what is known there of a rule
abbrev pub rule_there : Instant → Rule → Verdict
rule_there instant rule = rule_between instant.project.now instant.time (below instant) (above instant) rule

-- the truth of a rule there
abbrev pub IsTruthThere : Instant → Rule → Truth → Type 0
IsTruthThere instant rule truth =
    IsTruthBetween instant.project.now instant.time (below instant) (above instant) rule truth

-- What is known of a premise where the clauses before `rows` are done with: of the groups before the last one, of the
-- last group, where a clause stands before, and of the rows that are left.
abbrev pub rest_of : (Clause → Verdict) → Verdict → Option Verdict → List RuleClause → Verdict
rest_of truth groups None rows =
    both groups (all_hold (map (λ each. some_holds (map truth each)) (groups_in (parts_of rows))))
rest_of truth groups (Some group) rows =
    both groups (both (either group (some_holds (map truth (parts_of rows).front)))
    (all_hold (map (λ each. some_holds (map truth each)) (parts_of rows).rest)))

-- the same of a premise of the program
abbrev pub premise_of : (Clause → Verdict) → Premise → List RuleClause → Verdict
premise_of truth premise rows = rest_of truth premise.groups premise.group rows
