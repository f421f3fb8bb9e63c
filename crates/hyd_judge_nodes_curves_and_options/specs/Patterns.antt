-- The patterns of a file.
use Rattle.std.specs.Prelude.{◌≡◌, ℕ, ◌≤◌, List, length, take, min}
use Rattle.hyd_spec_lines.specs.Lines.{Row}
use Rattle.hyd_spec_lines.specs.declared.section.Section.TheVariants.{Patterns as InPatterns}
use Rattle.hyd_spec_input.specs.SectionsAndTables.{rows_of, distinct, pattern_named}
use Rattle.hyd_spec_input.specs.MeaningsAcrossRows.{number_in}
use Rattle.hyd_spec_input.specs.FaultsWithOtherRows.{multiplier_count}
use Rattle.hyd_rows_and_tables.specs.FirstWrongRow.{HasFound}
use Rattle.hyd_rows_and_tables.specs.IdTables.{IsTable}
use Rattle.hyd_rows_and_tables.specs.WrongInSection.{IsWrongIn}
use Rattle.hyd_judge_nodes_curves_and_options.specs.Extremes.{AreExtremes, bounds_of}
use Rattle.hyd_judge_nodes_curves_and_options.specs.declared.patterns.Counted.{Counted}
use Rattle.hyd_judge_nodes_curves_and_options.specs.declared.patterns.Patterns.{Patterns}

-- multipliers are counted up to one above the most that are allowed
abbrev pub most_counted : ℕ
most_counted = 1000001

-- the patterns among the first rows
pub record AreCounted (text : List ℕ) (rows : List Row) (k : ℕ) (patterns : Counted) : Type 0 where
  pub count : patterns.count ≡ min (multiplier_count (rows_of InPatterns (take k rows))) most_counted
  pub table : IsTable text (rows_of InPatterns (take k rows)) patterns.table
  pub distinct : length patterns.table.names ≡ distinct (rows_of InPatterns (take k rows))
  pub few : length patterns.table.names ≤ k
  pub found : HasFound rows (IsWrongIn InPatterns rows) k patterns.found

-- the table of the patterns of a file and, by the numbers of their names, the extremes of their multipliers
pub record ArePatterns (text : List ℕ) (rows : List Row) (patterns : Patterns) : Type 0 where
  pub table : IsTable text (rows_of InPatterns rows) patterns.table
  pub extremes : (name : List ℕ)
      → AreExtremes (pattern_named rows name) (bounds_of patterns.extremes.items (number_in patterns.table.names name))
