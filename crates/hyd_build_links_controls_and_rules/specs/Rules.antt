-- Rules of a file without a fault.
use Rattle.std.specs.Prelude.{◌≡◌, ℕ, Bool, true, false, List, ◌++◌, drop, take, Option, Some, None}
use Rattle.hyd_spec_lines.specs.Lines.{Row}
use Rattle.hyd_spec_lines.specs.declared.section.Section.TheVariants.{Rules}
use Rattle.hyd_net.specs.declared.rules.Rule.{Rule}
use Rattle.hyd_spec_input.specs.MeaningsAcrossRows.{rule_groups, lines_at, is_doing, is_otherwise}
use Rattle.hyd_spec_input.specs.Project.{Match, IsRule}
use Rattle.hyd_spec_input.specs.RuleRows as form
use Rattle.hyd_spec_input.specs.RuleRows.{begins_with, stage_after, is_rule, until_rule}
use Rattle.hyd_spec_input.specs.SectionsAndTables.{is_of, words_of}
use Rattle.hyd_spec_input.specs.FaultsWithOtherRows as others
use Rattle.hyd_spec_input.specs.declared.RuleWord.{RuleWord}
use Rattle.hyd_spec_input.specs.declared.RuleWord.TheVariants.{If, And, Or}
use Rattle.hyd_spec_input.specs.declared.Stage.{Stage}
use Rattle.hyd_spec_input.specs.declared.Stage.TheVariants.{Named}
use Rattle.hyd_build_links_controls_and_rules.specs.declared.rule_parts.Branch.{Branch}
use Rattle.hyd_build_links_controls_and_rules.specs.declared.rule_parts.Branch.TheVariants.{Then, Else}

-- ---- one line

abbrev pub is_clause_word : Option RuleWord → Bool
is_clause_word (Some If) = true
is_clause_word (Some And) = true
is_clause_word (Some Or) = true
is_clause_word _ = false

-- the words of a clause are right in both phases
pub record IsRightClause (rows : List Row) (words : List (List ℕ)) : Type 0 where
  pub begins : is_clause_word (begins_with words) ≡ true
  pub by_itself : form.clause words ≡ None
  pub with_others : others.clause rows words ≡ None

-- the stage at which a branch's lines leave a rule
abbrev pub is_of_branch : Branch → Stage → Bool
is_of_branch Then stage = is_doing stage
is_of_branch Else stage = is_otherwise stage

-- ---- what is left

-- the lines of rules from a place on
abbrev pub lines_from : List Row → ℕ → List (List (List ℕ))
lines_from rows k = words_of Rules (drop k rows)

-- the lines from a place on of the rule that stands there
abbrev pub rest_of_rule : List Row → ℕ → List (List (List ℕ))
rest_of_rule rows k = until_rule (lines_from rows k)

-- the stage before a place
abbrev pub stage_at : List Row → ℕ → Stage
stage_at rows k = stage_after (words_of Rules (take k rows))

-- the row names a rule
abbrev pub NamesRule : Row → Type 0
NamesRule row = (is_of Rules row ≡ true) × (is_rule (begins_with row.words) ≡ true)

-- one part of a rule that begins before a place, up to another place: its lines there, each with its item
pub record AreParts {B : Type 0} (passes : Stage → Bool) (R : List (List ℕ) → B
    → Type 0) (rows : List Row) (from place : ℕ) (stage : Stage) (list : List B) : Type 0 where
  pub stage_is : stage ≡ stage_at rows place
  pub done : List (List (List ℕ))
  pub all : lines_at passes Named (rest_of_rule rows from) ≡ done ++ lines_at passes stage (rest_of_rule rows place)
  pub built : Match R done list

-- the rules that begin before a place
pub record AreRules (rows : List Row) (place : ℕ) (list : List Rule) : Type 0 where
  pub done : List (List (List (List ℕ)))
  pub all : rule_groups (words_of Rules rows) ≡ done ++ rule_groups (lines_from rows place)
  pub built : Match (IsRule rows) done list
