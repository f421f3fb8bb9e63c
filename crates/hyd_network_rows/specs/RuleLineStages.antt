-- Rows judged by the stage of the rules before them.
use Rattle.std.specs.Prelude.{ℕ, Bool, List, [], ◌∷◌, Option, if◌then◌else◌}
use Rattle.hyd_spec_lines.specs.Lines.{Row}
use Rattle.hyd_spec_lines.specs.declared.line.Line.{Line}
use Rattle.hyd_spec_lines.specs.declared.section.Section.{Section}
use Rattle.hyd_spec_lines.specs.declared.section.Section.TheVariants.{Pipes, Rules}
use Rattle.hyd_spec_input.specs.SingleRows.{section_fault}
use Rattle.hyd_spec_input.specs.Columns.{first, unless}
use Rattle.hyd_spec_input.specs.NodeAndLinkRows.{pipe_by}
use Rattle.hyd_spec_input.specs.RuleRows.{stage_by, begins_with, in_order, words_of_rule_line, is_acting, gets_then}
use Rattle.hyd_spec_input.specs.SectionsAndTables.{is_of, words_of}
use Rattle.hyd_spec_input.specs.declared.Stage.{Stage}
use Rattle.hyd_net.specs.declared.refusal_cause.Cause.{Cause}
use Rattle.hyd_net.specs.declared.refusal_cause.Cause.TheVariants.{Syntax}
use Rattle.hyd_rows_and_tables.specs.RowsOfLines.{rows_at}

-- the stage after one row more
abbrev pub stage_with : Stage → Row → Stage
stage_with stage row = if is_of Rules row then stage_by stage (begins_with row.words) else stage

-- the words of the lines of rules among lines of a text
abbrev pub rule_lines : List ℕ → List Line → List (List (List ℕ))
rule_lines text lines = words_of Rules (rows_at text lines)

-- what is wrong with a line of a rule at a stage, before later lines
abbrev pub line_fault : Stage → List (List ℕ) → List (List (List ℕ)) → Option Cause
line_fault stage words later =
    first (in_order stage (begins_with words) ∷ words_of_rule_line (is_acting stage) words
    ∷ unless (gets_then words later) Syntax ∷ [])

-- what is wrong with the words of a row of a section, where losses are by Hazen-Williams or not, at a stage and before
-- later lines of rules
abbrev pub fault_at_stage : Bool → Section → Stage → List (List ℕ) → List (List (List ℕ)) → Option Cause
fault_at_stage by_power Pipes stage words later = pipe_by by_power words
fault_at_stage by_power Rules stage words later = line_fault stage words later
fault_at_stage by_power section stage words later = section_fault section [] words later
