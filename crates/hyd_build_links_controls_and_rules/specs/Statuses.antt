-- The last rows of [STATUS] that name each link.
use Rattle.std.specs.Prelude.{◌≡◌, ℕ, List, Option, Some, None, length, take, slice_index_or, IfSome}
use Rattle.std.specs.List.{All}
use Rattle.hyd_spec_lines.specs.Lines.{Row, LiesIn}
use Rattle.hyd_spec_lines.specs.declared.line.Line.{Line}
use Rattle.hyd_spec_lines.specs.declared.section.Section.TheVariants.{Status}
use Rattle.hyd_spec_input.specs.MeaningsAcrossRows.{number_in, last_naming}
use Rattle.hyd_spec_input.specs.SectionsAndTables.{rows_of}
use Rattle.hyd_rows_and_tables.specs.RowsOfLines.{row_in}

-- for each name that has a number, the line of its last row of [STATUS] among the first rows
pub record AreStatuses (text : List ℕ) (rows : List Row) (k : ℕ) (names : List (List ℕ))
    (last : List (Option Line)) : Type 0 where
  pub even : length last ≡ length names
  pub lie : All (λ (line : Option Line). IfSome line (LiesIn text)) last
  pub named : (name : List ℕ) (number : ℕ) → number_in names name ≡ Some number
      → row_in text (slice_index_or last number None) ≡ last_naming name (rows_of Status (take k rows))
