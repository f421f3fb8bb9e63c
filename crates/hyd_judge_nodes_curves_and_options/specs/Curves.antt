-- The curves among the first rows of a file.
use Rattle.std.specs.Prelude.{◌≡◌, ℕ, ◌≤◌, List, length, take}
use Rattle.hyd_spec_lines.specs.Lines.{Row}
use Rattle.hyd_spec_lines.specs.declared.section.Section.TheVariants.{Curves as InCurves}
use Rattle.hyd_spec_input.specs.SectionsAndTables.{rows_of, distinct}
use Rattle.hyd_rows_and_tables.specs.FirstWrongRow.{HasFound}
use Rattle.hyd_rows_and_tables.specs.IdTables.{IsTable}
use Rattle.hyd_rows_and_tables.specs.WrongInSection.{IsWrongIn}
use Rattle.hyd_judge_nodes_curves_and_options.specs.declared.curves.Curves.{Curves}

pub record AreCurves (text : List ℕ) (rows : List Row) (k : ℕ) (curves : Curves) : Type 0 where
  pub count : curves.count ≡ length (rows_of InCurves (take k rows))
  pub small : curves.count ≤ k
  pub table : IsTable text (rows_of InCurves (take k rows)) curves.table
  pub distinct : length curves.table.names ≡ distinct (rows_of InCurves (take k rows))
  pub few : length curves.table.names ≤ k
  pub found : HasFound rows (IsWrongIn InCurves rows) k curves.found
