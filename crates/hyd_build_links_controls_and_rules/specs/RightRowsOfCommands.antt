-- Rows of commands of a file without a fault.
use Rattle.std.specs.Prelude.{◌≡◌, ℕ, List, Some, None}
use Rattle.hyd_spec_lines.specs.Lines.{Row}
use Rattle.hyd_spec_input.specs.CapacitiesOutOfRange.{IsRefusedSetting}
use Rattle.hyd_spec_input.specs.Columns.{word}
use Rattle.hyd_spec_input.specs.ControlRows as row_form
use Rattle.hyd_spec_input.specs.RuleRows as form
use Rattle.hyd_spec_input.specs.SectionsAndTables.{link_named}
use Rattle.hyd_spec_input.specs.FaultsWithOtherRows.{set_link, control_node, control_tank, control_level}

-- a row of [CONTROLS] is right in both phases
pub record IsRightControl (rows : List Row) (row : Row) : Type 0 where
  pub by_itself : row_form.control row.words ≡ None
  pub link : Row
  pub named : link_named rows (word 1 row.words) ≡ Some link
  pub node : control_node rows row ≡ None
  pub set : set_link rows (Some link) (word 2 row.words) (control_tank rows row) ≡ None
  pub tank : control_tank rows row ≡ None
  pub level : control_level rows row ≡ None
  pub free : IsRefusedSetting rows (Some link) (word 2 row.words) → ⊥

-- the words of an action are right in both phases
pub record IsRightAction (rows : List Row) (words : List (List ℕ)) : Type 0 where
  pub by_itself : form.action words ≡ None
  pub link : Row
  pub named : link_named rows (word 2 words) ≡ Some link
  pub set : set_link rows (Some link) (word 5 words) None ≡ None
  pub free : IsRefusedSetting rows (Some link) (word 5 words) → ⊥
