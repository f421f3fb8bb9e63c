-- Controls among the first rows of a file.
use Rattle.std.specs.Prelude.{◌≡◌, ℕ, ◌≤◌, true, false, List, [], ◌∷◌, length, take, Option, Some, None}
use Rattle.hyd_spec_lines.specs.Lines.{Row, row_of}
use Rattle.hyd_spec_lines.specs.declared.line.Line.{Line}
use Rattle.hyd_spec_lines.specs.declared.section.Section.TheVariants.{Controls as InControls}
use Rattle.hyd_net.specs.CountLimits.{most_controls}
use Rattle.hyd_net.specs.declared.refusal_cause.Cause.{Cause}
use Rattle.hyd_spec_input.specs.CapacitiesOutOfRange.{IsRefusedSetting}
use Rattle.hyd_spec_input.specs.Columns.{word, first}
use Rattle.hyd_spec_input.specs.Keywords.{link_word}
use Rattle.hyd_spec_input.specs.SectionsAndTables.{rows_of, link_named, node_named}
use Rattle.hyd_spec_input.specs.FaultsWithOtherRows.{passes, link_by_word, is_at_level, control_node, control_tank}
use Rattle.hyd_spec_input.specs.FaultsWithOtherRows.{control_level, set_link}
use Rattle.hyd_rows_and_tables.specs.FirstWrongRow.{HasFound}
use Rattle.hyd_rows_and_tables.specs.WrongInSection.{IsWrongIn, IsFaultThen}
use Rattle.hyd_judge_links_controls_and_rules.specs.declared.controls.Controls.{Controls}

-- the node at whose level a control acts, where it acts at one
abbrev pub IsControlNode : List ℕ → List Row → Row → Option Line → Type 0
IsControlNode text rows row None = is_at_level row ≡ false
IsControlNode text rows row (Some line) =
    (is_at_level row ≡ true) × (node_named rows (word 5 row.words) ≡ Some (row_of text line))

-- what a control is asked behind its link and its node
abbrev pub commanded_fault : List Row → Row → Row → Option Cause
commanded_fault rows link row =
    first (set_link rows (Some link) (word 2 row.words) (control_tank rows row) ∷ control_level rows row ∷ [])

-- what a control is asked, by its count
abbrev pub control_fault : List Row → ℕ → Row → Option Cause
control_fault rows count row =
    first (passes most_controls 11 count ∷ link_by_word rows (link_word (word 0 row.words)) (word 1 row.words)
    ∷ control_node rows row
    ∷ set_link rows (link_named rows (word 1 row.words)) (word 2 row.words) (control_tank rows row)
    ∷ control_level rows row ∷ [])

-- what is wrong with a control, the capacity of a setting last
abbrev pub IsControlFault : List Row → ℕ → Row → Option Cause → Type 0
IsControlFault rows count row cause =
    IsFaultThen (control_fault rows count row)
    (IsRefusedSetting rows (link_named rows (word 1 row.words)) (word 2 row.words)) cause

pub record AreControls (rows : List Row) (k : ℕ) (controls : Controls) : Type 0 where
  pub count : controls.count ≡ length (rows_of InControls (take k rows))
  pub small : controls.count ≤ k
  pub found : HasFound rows (IsWrongIn InControls rows) k controls.found
