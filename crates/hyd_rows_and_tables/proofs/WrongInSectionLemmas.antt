-- A row of one section among all rows.
use Rattle.std.proofs.Common.{◌≡◌, ◌≤◌, ℕ, Bool, true, false, List, length, filter, take, slice_get, Option, Some, None}
use Rattle.std.proofs.Common.{sym, ◌∙◌, subst, arith, inl, inr, true≢false}
use Rattle.std.proofs.lemmas.List.{length-map, take_all}
use Rattle.hyd_spec_lines.specs.Lines.{Row, row_of}
use Rattle.hyd_spec_lines.specs.declared.line.Line.{Line}
use Rattle.hyd_spec_lines.specs.declared.section.Section.{Section}
use Rattle.hyd_spec_input.specs.CapacitiesOutOfRange.{IsRefusedRow}
use Rattle.hyd_spec_input.specs.SectionsAndTables.{is_of}
use Rattle.hyd_spec_input.specs.FaultsWithOtherRows.{row_fault}
use Rattle.hyd_net.specs.declared.refusal_cause.Cause.{Cause}
use Rattle.hyd_rows_and_tables.specs.FirstWrongRow.{HasFound, IsVerdict}
use Rattle.hyd_rows_and_tables.specs.RowsOfLines.{rows_at}
use Rattle.hyd_rows_and_tables.specs.IdTables.{AreFirsts}
use Rattle.hyd_rows_and_tables.specs.declared.first_wrong.Found.{Found}
use Rattle.hyd_rows_and_tables.specs.WrongInSection.{IsWrongIn, IsFaultThen}

-- the verdict on a row that has no capacity
pub verdict_without_capacity : (section : Section) (rows : List Row) (k : ℕ) (row : Row) (fault : Option Cause)
    → slice_get rows k ≡ Some row → is_of section row ≡ true → (IsRefusedRow rows (take k rows) row → ⊥)
    → fault ≡ row_fault rows k row → IsVerdict (IsWrongIn section rows k) fault
verdict_without_capacity section rows k row (Some cause) is member free e =
    record { row = row; row_is = is; member = member; wrong = record { row = row; row_is = is; fault = inl (sym e) } }
verdict_without_capacity section rows k row None is member free e = λ cause w.
    let same : w.wrong.row ≡ row = cc in
    elim w.wrong.fault [
      | inl f ↦ (let g : row_fault rows k row ≡ Some cause = rw (← same) f in absurd (let x : ⊥ = cc in x))
      | inr r ↦ (let refused : IsRefusedRow rows (take k rows) row = rw (← same) r.1 in free refused)
    ]

-- a fault comes before the capacity
verdict_with_fault : (section : Section) (rows : List Row) (k : ℕ) (row : Row) (fault : Cause) (cause : Option Cause)
    → slice_get rows k ≡ Some row → is_of section row ≡ true → Some fault ≡ row_fault rows k row
    → cause ≡ Some fault → IsVerdict (IsWrongIn section rows k) cause
verdict_with_fault section rows k row fault cause is member e c =
    rw c (record {
      row = row;
      row_is = is;
      member = member;
      wrong = record { row = row; row_is = is; fault = inl (sym e) };
    })

-- the verdict on a row whose capacity comes last
pub verdict_with_capacity : (section : Section) (rows : List Row) (k : ℕ) (row : Row) (fault cause : Option Cause)
    → slice_get rows k ≡ Some row → is_of section row ≡ true → fault ≡ row_fault rows k row
    → IsFaultThen fault (IsRefusedRow rows (take k rows) row) cause → IsVerdict (IsWrongIn section rows k) cause
verdict_with_capacity section rows k row (Some fault) cause is member e then =
    verdict_with_fault section rows k row fault cause is member e then
verdict_with_capacity section rows k row None (Some cause) is member e then =
    record {
      row = row;
      row_is = is;
      member = member;
      wrong = record { row = row; row_is = is; fault = inr (sym e, then.0, then.1) };
    }
verdict_with_capacity section rows k row None None is member e then =
    verdict_without_capacity section rows k row None is member then e

-- a capacity said in two ways
pub fault_then_alike : (fault : Option Cause) (One Other : Type 0) (cause : Option Cause) → (One → Other)
    → (Other → One) → IsFaultThen fault One cause → IsFaultThen fault Other cause
fault_then_alike (Some fault) One Other cause to from then = then
fault_then_alike None One Other (Some cause) to from then = (to then.0, then.1)
fault_then_alike None One Other None to from then = λ refused. then (from refused)

-- a row of another section isn't wrong in this one
pub other_section : (section : Section) (rows : List Row) (k : ℕ) (row : Row) → slice_get rows k ≡ Some row
    → is_of section row ≡ false → (cause : Cause) → IsWrongIn section rows k cause → ⊥
other_section section rows k row is other cause w =
    let same : w.row ≡ row = cc in
    let member : is_of section row ≡ true = rw (← same) w.member in
    true≢false (sym member ∙ other)

-- ---- all rows

-- the rows of all lines
pub all_rows : (text : List ℕ) (lines : List Line) (k : ℕ) → length lines ≤ k
    → take k (rows_at text lines) ≡ rows_at text lines
all_rows text lines k l = take_all k (rows_at text lines) (omega (arith, l, length-map lines (row_of text)))

pub found_fewer : (rows : List Row) (Wrong : ℕ → Cause → Type 0) (n m : ℕ) (found : Option Found)
    → HasFound rows Wrong n found → m ≤ n → HasFound rows Wrong m found
found_fewer rows Wrong n m None before l = λ k within. before k (omega (arith, within, l))
found_fewer rows Wrong n m (Some found) before l = before

-- a table of the first rows that are of a kind, where they are all
pub table_of_all : (text : List ℕ) (lines : List Line) (k : ℕ) (p : Row → Bool) (names : List (List ℕ))
    (firsts : List Line) → AreFirsts text (filter p (take k (rows_at text lines))) names firsts → length lines ≤ k
    → AreFirsts text (filter p (rows_at text lines)) names firsts
table_of_all text lines k p names firsts is l =
    let P : List Row → Type 0 = λ rs. AreFirsts text (filter p rs) names firsts in
    subst P (all_rows text lines k l) is
