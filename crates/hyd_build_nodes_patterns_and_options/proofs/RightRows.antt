-- The rows of a text of which none is wrong.
use Rattle.std.proofs.Common.{◌≡◌, ℕ, ◌≤◌, List, length, Some, inl}
use Rattle.std.specs.Prelude.{slice_get, slice_range}
use Rattle.std.specs.List.{All}
use Rattle.hyd_spec_lines.specs.Lines.{Row, row_of}
use Rattle.hyd_spec_lines.specs.declared.line.Line.{Line}
use Rattle.hyd_spec_input.specs.SingleRows as itself
use Rattle.hyd_spec_input.specs.SingleRows.{IsWrongByItself}
use Rattle.hyd_spec_input.specs.FaultsWithOtherRows as others
use Rattle.hyd_spec_input.specs.Faults.{NoneIs, IsWrongWithOthers}
use Rattle.hyd_rows_and_tables.specs.RowsOfLines.{rows_at}
use Rattle.hyd_theorems_on_input.proofs.RowsWithoutFault.{AreRight, none_from}
use Rattle.hyd_theorems_on_input.proofs.ListsByPlace.{source}
use Rattle.hyd_theorems_on_input.proofs.NoEmptyWords.{no_empty_word}

words_of_line : (text : List ℕ) (lines : List Line) (k : ℕ) (row : Row) → slice_get (rows_at text lines) k ≡ Some row
    → All (λ w. 1 ≤ length w) row.words
words_of_line text lines k row is =
    let found = source (row_of text) lines k row is in
    let words = no_empty_word (slice_range text found.item.from found.item.to) in
    rw (← found.gives) words

pub right_rows : (text : List ℕ) (lines : List Line) → NoneIs (IsWrongByItself (rows_at text lines))
    → NoneIs (IsWrongWithOthers (rows_at text lines)) → AreRight (rows_at text lines)
right_rows text lines alone among = record {
  by_itself = λ k row is. none_from (itself.row_fault (rows_at text lines) k row)
      (λ cause e. alone k cause (record { row = row; row_is = is; fault = e }));
  with_others = λ k row is. none_from (others.row_fault (rows_at text lines) k row)
      (λ cause e. among k cause (record { row = row; row_is = is; fault = inl e }));
  not_empty = words_of_line text lines;
}
