-- Rules among the first rows of a file.
use Rattle.std.specs.Prelude.{◌≡◌, ℕ, ◌≤◌, Bool, true, false, List, length, take, slice_get, Option, Some}
use Rattle.std.specs.List.{list_any}
use Rattle.std.specs.Str.{bytes_eq}
use Rattle.hyd_spec_lines.specs.Lines.{Row}
use Rattle.hyd_spec_lines.specs.declared.section.Section.TheVariants.{Rules as InRules}
use Rattle.hyd_net.specs.declared.refusal_cause.Cause.{Cause}
use Rattle.hyd_option_and_rule_lines.specs.WhatLinesSay.{IsClauseLine, IsActionLine}
use Rattle.hyd_spec_input.specs.CapacitiesOutOfRange.{IsRefusedSetting}
use Rattle.hyd_spec_input.specs.Columns.{word}
use Rattle.hyd_spec_input.specs.RuleRows.{begins_with, is_rule, is_acting, stage_after}
use Rattle.hyd_spec_input.specs.SectionsAndTables.{is_of, words_of, link_named}
use Rattle.hyd_spec_input.specs.FaultsWithOtherRows.{is_part_word, is_action_word, holds_action, has_rule, rules_in}
use Rattle.hyd_spec_input.specs.FaultsWithOtherRows.{parts_in}
use Rattle.hyd_spec_input.specs.FaultsWithOtherRows.{rule_line}
use Rattle.hyd_rows_and_tables.specs.FirstWrongRow.{HasFound}
use Rattle.hyd_rows_and_tables.specs.WrongInSection.{IsWrongIn, IsFaultThen}
use Rattle.hyd_judge_links_controls_and_rules.specs.declared.rule_parts.Part.{Part}
use Rattle.hyd_judge_links_controls_and_rules.specs.declared.rule_parts.Part.TheVariants.{Name, Clause, Action}
use Rattle.hyd_judge_links_controls_and_rules.specs.declared.rule_parts.Part.TheVariants.{Priority}
use Rattle.hyd_judge_links_controls_and_rules.specs.declared.rules.RuleCounts.{RuleCounts}
use Rattle.hyd_judge_links_controls_and_rules.specs.declared.rules.Rules.{Rules}

-- ---- one line

-- what a line of a rule is, where an AND line holds an action or not
abbrev pub IsPart : Bool → List (List ℕ) → Part → Type 0
IsPart acting words Name = is_rule (begins_with words) ≡ true
IsPart acting words (Clause clause) =
    (is_rule (begins_with words) ≡ false) × (is_part_word (begins_with words) ≡ true)
    × (is_action_word (begins_with words) acting ≡ false) × IsClauseLine words clause
IsPart acting words (Action action) =
    (is_rule (begins_with words) ≡ false) × (is_part_word (begins_with words) ≡ true)
    × (is_action_word (begins_with words) acting ≡ true) × IsActionLine words action
IsPart acting words Priority = (is_rule (begins_with words) ≡ false) × (is_part_word (begins_with words) ≡ false)

-- an AND line at a place holds an action
abbrev pub acting_at : List Row → ℕ → Bool
acting_at rows k = is_acting (stage_after (words_of InRules (take k rows)))

-- what the line of a rule at a place is
abbrev pub IsPartAt : List Row → ℕ → Part → Type 0
IsPartAt rows k part =
    (row : Row) → slice_get rows k ≡ Some row → (is_of InRules row ≡ true)
    × IsPart (acting_at rows k) row.words part

-- what is wrong with a line of a rule, the capacity of a setting last
abbrev pub IsRuleFault : List Row → ℕ → Row → Option Cause → Type 0
IsRuleFault rows k row cause =
    IsFaultThen (rule_line rows k row)
    ((holds_action (take k rows) row ≡ true)
    × IsRefusedSetting rows (link_named rows (word 2 row.words)) (word 5 row.words)) cause

-- ---- the first rows

pub record AreCounted (rows : List Row) (k : ℕ) (counts : RuleCounts) : Type 0 where
  pub named : (name : List ℕ) → list_any (bytes_eq name) counts.names ≡ has_rule name (rules_in (take k rows))
  pub rules : counts.rules ≡ length (rules_in (take k rows))
  pub parts : counts.parts ≡ length (parts_in (take k rows))
  pub few_names : length counts.names ≤ k
  pub few_rules : counts.rules ≤ k
  pub few_parts : counts.parts ≤ k

pub record AreRules (rows : List Row) (k : ℕ) (rules : Rules) : Type 0 where
  pub counts : AreCounted rows k rules.counts
  pub stage : rules.stage ≡ stage_after (words_of InRules (take k rows))
  pub found : HasFound rows (IsWrongIn InRules rows) k rules.found
