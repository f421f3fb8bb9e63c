-- Rows of a file without a fault, and lists that match them, one row further.
use Rattle.std.proofs.Common.{◌≡◌, ◌+◌, ◌*◌, ◌^◌, ◌≤◌, ◌++◌, ℕ, true, false, List, [], ◌∷◌, take, drop, length}
use Rattle.std.proofs.Common.{slice_get, Some, None, sym, subst, arith, inl}
use Rattle.std.specs.Prelude.{ℤ, unsigned_abs}
use Rattle.std.proofs.lemmas.Int.{ints}
use Rattle.hyd_spec_lines.specs.Lines.{Row}
use Rattle.hyd_spec_lines.specs.declared.line.Line.{Line}
use Rattle.hyd_spec_lines.specs.declared.section.Section.{Section}
use Rattle.hyd_spec_lines.specs.declared.section.Section.TheVariants.{Rules}
use Rattle.hyd_net.specs.NumberRanges.{IsHead}
use Rattle.hyd_spec_input.specs.SingleRows as itself
use Rattle.hyd_spec_input.specs.SingleRows.{IsWrongByItself}
use Rattle.hyd_spec_input.specs.Faults.{NoneIs, IsWrongWithOthers}
use Rattle.hyd_spec_input.specs.SectionsAndTables.{is_of, rows_of, words_of}
use Rattle.hyd_spec_input.specs.FaultsWithOtherRows as others
use Rattle.hyd_spec_input.specs.Project.{Match}
use Rattle.hyd_theorems_on_input.proofs.RowsWithoutFault.{section_is, none_from, none_alone}
use Rattle.hyd_rows_and_tables.specs.RowsOfLines.{rows_at}
use Rattle.hyd_rows_and_tables.proofs.FirstWrongRowLemmas.{filter_more, filter_same}
use Rattle.hyd_rows_and_tables.proofs.WrongInSectionLemmas.{all_rows}
use Rattle.hyd_theorems_on_input.proofs.MatchedLists.{match_push}

-- ---- rows

pub alone : (section : Section) (rows : List Row) (k : ℕ) (row : Row) → NoneIs (IsWrongByItself rows)
    → slice_get rows k ≡ Some row → is_of section row ≡ true
    → itself.section_fault section (words_of Rules (take k rows)) row.words (words_of Rules (drop (k + 1) rows)) ≡ None
alone section rows k row right is of =
    let P : Section → Type 0 = λ s. itself.section_fault s (words_of Rules (take k rows)) row.words
    (words_of Rules (drop (k + 1) rows)) ≡ None in
    subst P (section_is section row of)
    (none_alone rows k row right is)

pub among : (section : Section) (rows : List Row) (k : ℕ) (row : Row) → NoneIs (IsWrongWithOthers rows)
    → slice_get rows k ≡ Some row → is_of section row ≡ true → others.section_fault section rows k row ≡ None
among section rows k row right is of =
    let P : Section → Type 0 = λ s. others.section_fault s rows k row ≡ None in
    subst P (section_is section row of)
    (none_from (others.row_fault rows k row) (λ cause f. right k cause
    (record { row = row; row_is = is; fault = inl f })))

pub small_head : (ticks : ℤ) → IsHead ticks → unsigned_abs ticks ≤ 2 * 10 ^ 17
small_head ticks h = grind (arith, ints, h.at_least, h.at_most)

-- ---- lists that match

pub built_more : {B : Type 0} (section : Section) (R : Row → B → Type 0) (rows : List Row) (k : ℕ) (row : Row)
    (before after : List B) (item : B) → Match R (rows_of section (take k rows)) before → slice_get rows k ≡ Some row
    → is_of section row ≡ true → R row item → after ≡ before ++ item ∷ []
    → Match R (rows_of section (take (k + 1) rows)) after
built_more section R rows k row before after item built is member made e =
    rw (e, filter_more (is_of section) rows k row is member)
    (match_push R (rows_of section (take k rows)) before row item built made)

pub built_same : {B : Type 0} (section : Section) (R : Row → B → Type 0) (rows : List Row) (k : ℕ) (row : Row)
    (list : List B) → Match R (rows_of section (take k rows)) list → slice_get rows k ≡ Some row
    → is_of section row ≡ false → Match R (rows_of section (take (k + 1) rows)) list
built_same section R rows k row list built is other =
    let P : List Row → Type 0 = λ rs. Match R rs list in
    subst P (sym (filter_same (is_of section) rows k row is other)) built

pub built_all : {B : Type 0} (section : Section) (R : Row → B → Type 0) (text : List ℕ) (lines : List Line) (k : ℕ)
    (list : List B) → Match R (rows_of section (take k (rows_at text lines))) list → length lines ≤ k
    → Match R (rows_of section (rows_at text lines)) list
built_all section R text lines k list built l =
    let P : List Row → Type 0 = λ rs. Match R (rows_of section rs) list in
    subst P (all_rows text lines k l) built
