-- The links among the first rows of a file.
use Rattle.std.specs.Prelude.{◌≡◌, ℕ, ◌≤◌, List, length, take}
use Rattle.hyd_spec_lines.specs.Lines.{Row}
use Rattle.hyd_spec_input.specs.Faults.{IsWrongWithOthers}
use Rattle.hyd_spec_input.specs.SectionsAndTables.{is_link, link_rows}
use Rattle.hyd_net.specs.declared.refusal_cause.Cause.{Cause}
use Rattle.hyd_rows_and_tables.specs.FirstWrongRow.{HasFound, IsWrongAmong}
use Rattle.hyd_rows_and_tables.specs.IdTables.{IsTable}
use Rattle.hyd_judge_links_controls_and_rules.specs.declared.links.Links.{Links}

-- a row of links is wrong with the others
abbrev pub IsWrongLink : List Row → ℕ → Cause → Type 0
IsWrongLink rows = IsWrongAmong is_link (IsWrongWithOthers rows) rows

pub record AreLinks (text : List ℕ) (rows : List Row) (k : ℕ) (links : Links) : Type 0 where
  pub count : links.count ≡ length (link_rows (take k rows))
  pub small : links.count ≤ k
  pub table : IsTable text (link_rows (take k rows)) links.table
  pub few : length links.table.names ≤ k
  pub found : HasFound rows (IsWrongLink rows) k links.found
