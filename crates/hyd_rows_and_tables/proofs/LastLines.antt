-- The last row that passes, one row further.
use Rattle.std.proofs.Common.{◌≡◌, ◌+◌, ℕ, Bool, true, false, List, take, slice_get, Some, refl, sym, ap, ◌∙◌}
use Rattle.hyd_spec_lines.specs.Lines.{Row}
use Rattle.hyd_spec_lines.specs.declared.section.Section.{Section}
use Rattle.hyd_spec_input.specs.SectionsAndTables.{is_of, rows_of}
use Rattle.hyd_spec_input.specs.OptionsAndTimesInForce.{last_where}
use Rattle.hyd_rows_and_tables.proofs.FirstWrongRowLemmas.{filter_more, filter_same}
use Rattle.hyd_theorems_on_input.proofs.OptionsAndTimesInForce.{last_where_push}

pub last_here : (section : Section) (p : Row → Bool) (rows : List Row) (k : ℕ) (row : Row)
    → slice_get rows k ≡ Some row → is_of section row ≡ true → p row ≡ true
    → Some row ≡ last_where p (rows_of section (take (k + 1) rows))
last_here section p rows k row is member passes =
    sym (ap (last_where p) (filter_more (is_of section) rows k row is member)
    ∙ last_where_push p (rows_of section (take k rows)) row ∙ rw passes refl)

pub last_before : (section : Section) (p : Row → Bool) (rows : List Row) (k : ℕ) (row : Row)
    → slice_get rows k ≡ Some row → is_of section row ≡ true → p row ≡ false
    → last_where p (rows_of section (take k rows)) ≡ last_where p (rows_of section (take (k + 1) rows))
last_before section p rows k row is member passes =
    sym (ap (last_where p) (filter_more (is_of section) rows k row is member)
    ∙ last_where_push p (rows_of section (take k rows)) row ∙ rw passes refl)

pub last_elsewhere : (section : Section) (p : Row → Bool) (rows : List Row) (k : ℕ) (row : Row)
    → slice_get rows k ≡ Some row → is_of section row ≡ false
    → last_where p (rows_of section (take k rows)) ≡ last_where p (rows_of section (take (k + 1) rows))
last_elsewhere section p rows k row is other =
    sym (ap (last_where p) (filter_same (is_of section) rows k row is other))
