-- Rows of [STATUS] among all rows.
use Rattle.std.proofs.Common.{◌≡◌, ◌+◌, ℕ, true, List, take, drop, slice_get, Option, Some, None, refl, sym, ap, subst}
use Rattle.hyd_spec_lines.specs.Lines.{Row}
use Rattle.hyd_spec_lines.specs.declared.section.Section.{Section}
use Rattle.hyd_spec_lines.specs.declared.section.Section.TheVariants.{Rules, Status}
use Rattle.hyd_net.specs.declared.refusal_cause.Cause.{Cause}
use Rattle.hyd_spec_input.specs.SingleRows as itself
use Rattle.hyd_spec_input.specs.SingleRows.{IsWrongByItself}
use Rattle.hyd_spec_input.specs.CapacitiesOutOfRange.{IsRefusedIn, IsRefusedSetting}
use Rattle.hyd_spec_input.specs.Columns.{word, or_empty, or_else}
use Rattle.hyd_spec_input.specs.DemandEmitterCurvePatternAndStatusRows as row_form
use Rattle.hyd_spec_input.specs.Faults.{NoneIs}
use Rattle.hyd_spec_input.specs.SectionsAndTables.{is_of, link_named, words_of}
use Rattle.hyd_spec_input.specs.FaultsWithOtherRows as others
use Rattle.hyd_spec_input.specs.declared.LinkWord.TheVariants.{Link}
use Rattle.hyd_theorems_on_input.proofs.RowsWithoutFault.{section_is, none_alone, or_last}
use Rattle.hyd_rows_and_tables.specs.FirstWrongRow.{IsVerdict}
use Rattle.hyd_rows_and_tables.specs.WrongInSection.{IsWrongIn, IsFaultThen}
use Rattle.hyd_rows_and_tables.proofs.WrongInSectionLemmas.{verdict_with_capacity}

pub status_is_right : (rows : List Row) (k : ℕ) (row : Row) → NoneIs (IsWrongByItself rows)
    → slice_get rows k ≡ Some row → is_of Status row ≡ true → row_form.status row.words ≡ None
status_is_right rows k row right is member =
    let P : Section → Type 0 = λ s. itself.section_fault s (words_of Rules (take k rows)) row.words
    (words_of Rules (drop (k + 1) rows)) ≡ None in
    subst P (section_is Status row member)
    (none_alone rows k row right is)

-- the link by its name, then its state and its capacity
pub status_verdict : (rows : List Row) (k : ℕ) (row : Row) (name : List ℕ) (cause : Option Cause)
    → slice_get rows k ≡ Some row → is_of Status row ≡ true → slice_get row.words 0 ≡ Some name
    → IsFaultThen (or_else (others.link_by_word rows (Some Link) name)
    (others.set_link rows (link_named rows name) (word 1 row.words) None))
    (IsRefusedSetting rows (link_named rows name) (word 1 row.words)) cause
    → IsVerdict (IsWrongIn Status rows k) cause
status_verdict rows k row name cause is member named then =
    let acting = others.holds_action (take k rows) row in
    let first : word 0 row.words ≡ name = ap or_empty named in
    let P : Section → Type 0 = λ s. IsFaultThen (others.section_fault s rows k row) (IsRefusedIn s rows acting row)
    cause in
    let all : IsFaultThen (others.status rows k row)
    (IsRefusedSetting rows (link_named rows (word 0 row.words)) (word 1 row.words)) cause =
    rw (first, or_last (others.set_link rows (link_named rows name) (word 1 row.words) None)) then in
    verdict_with_capacity Status rows k row (others.row_fault rows k row) cause is member refl
    (subst P (sym (section_is Status row member)) all)
