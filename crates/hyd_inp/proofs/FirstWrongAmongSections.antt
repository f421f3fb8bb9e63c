-- The first wrong rows of families of sections: the first of them all is the first row that is wrong with the others.
use Rattle.std.proofs.Common.{◌≡◌, ◌≤◌, ℕ, Bool, true, List, length, take, Option, Some, None, refl, subst, arith, inl}
use Rattle.std.proofs.Common.{inr}
use Rattle.std.proofs.lemmas.Bool.{cases_Bool, or_left, or_right}
use Rattle.std.proofs.lemmas.List.{length-map}
use Rattle.hyd_spec_lines.specs.Lines.{Row, row_of}
use Rattle.hyd_spec_lines.specs.declared.line.Line.{Line}
use Rattle.hyd_spec_lines.specs.declared.section.Section.{Section}
use Rattle.hyd_spec_lines.specs.declared.section.Section.TheVariants.{Times}
use Rattle.hyd_net.specs.declared.refusal_cause.Cause.{Cause}
use Rattle.hyd_spec_input.specs.CapacitiesOutOfRange.{IsRefusedIn}
use Rattle.hyd_spec_input.specs.Faults.{IsWrongWithOthers}
use Rattle.hyd_spec_input.specs.FaultsWithOtherRows.{section_fault, holds_action}
use Rattle.hyd_inp.specs.SectionsInJudgingOrder.{Both, is_judged, IsWrongOf}
use Rattle.hyd_rows_and_tables.specs.declared.first_wrong.Found.{Found}
use Rattle.hyd_rows_and_tables.specs.FirstWrongRow.{HasFound, IsWrongAmong, Either, least}
use Rattle.hyd_rows_and_tables.specs.RowsOfLines.{rows_at}
use Rattle.hyd_rows_and_tables.proofs.EarlierOfTwoLemmas.{found_least}

-- where two notions of a wrong row are one
pub found_as : (rows : List Row) (One Other : ℕ → Cause → Type 0) (n : ℕ) (found : Option Found)
    → ((k : ℕ) (cause : Cause) → One k cause → Other k cause) → ((k : ℕ) (cause : Cause) → Other k cause → One k cause)
    → HasFound rows One n found → HasFound rows Other n found
found_as rows One Other n None to from is = λ k l cause w. is k l cause (from k cause w)
found_as rows One Other n (Some found) to from is = record {
  wrong = to found.place found.cause is.wrong;
  row = is.row;
  row_is = is.row_is;
  line_is = is.line_is;
  earlier = λ k l cause w. is.earlier k l cause (from k cause w);
}

either_family : (rows : List Row) (f g : Row → Bool) (Wrong : ℕ → Cause → Type 0) (k : ℕ) (cause : Cause)
    → Either (IsWrongAmong f Wrong rows) (IsWrongAmong g Wrong rows) k cause
    → IsWrongAmong (Both f g) Wrong rows k cause
either_family rows f g Wrong k cause w = elim w [
  | inl u ↦ record { row = u.row; row_is = u.row_is; member = or_left (f u.row) (g u.row) u.member; wrong = u.wrong }
  | inr v ↦ record { row = v.row; row_is = v.row_is; member = or_right (f v.row) (g v.row) v.member; wrong = v.wrong }
]

one_family : (rows : List Row) (f g : Row → Bool) (Wrong : ℕ → Cause → Type 0) (k : ℕ) (cause : Cause)
    → IsWrongAmong (Both f g) Wrong rows k cause → Either (IsWrongAmong f Wrong rows)
    (IsWrongAmong g Wrong rows) k cause
one_family rows f g Wrong k cause w = elim (cases_Bool (f w.row)) [
  | inl t ↦ inl (record { row = w.row; row_is = w.row_is; member = t; wrong = w.wrong })
  | inr e ↦ inr (record { row = w.row; row_is = w.row_is; member = rw e at w.member; wrong = w.wrong })
]

-- the first wrong row of two families is the one of the two that stands first
pub found_both : (rows : List Row) (f g : Row → Bool) (Wrong : ℕ → Cause → Type 0) (n : ℕ) (one other : Option Found)
    → length rows ≤ n → HasFound rows (IsWrongAmong f Wrong rows) n one
    → HasFound rows (IsWrongAmong g Wrong rows) n other
    → HasFound rows (IsWrongAmong (Both f g) Wrong rows) n (least one other)
found_both rows f g Wrong n one other all a b =
    found_as rows (Either (IsWrongAmong f Wrong rows) (IsWrongAmong g Wrong rows)) (IsWrongAmong
    (Both f g) Wrong rows) n
    (least one other) (either_family rows f g Wrong) (one_family rows f g Wrong)
    (found_least rows (IsWrongAmong f Wrong rows) (IsWrongAmong g Wrong rows) n one other all a b)

-- the same among the rows of a text, as it was computed
pub found_next : (text : List ℕ) (lines : List Line) (f g : Row → Bool) (one other both : Option Found)
    → both ≡ least one other → HasFound (rows_at text lines) (IsWrongOf f (rows_at text lines)) (length lines) one
    → HasFound (rows_at text lines) (IsWrongOf g (rows_at text lines)) (length lines) other
    → HasFound (rows_at text lines) (IsWrongOf (Both f g) (rows_at text lines)) (length lines) both
found_next text lines f g one other both e a b =
    let rows = rows_at text lines in
    rw e (found_both rows f g (IsWrongWithOthers rows) (length lines) one other
    (omega (arith, length-map lines (row_of text))) a b)

-- ---- all sections

-- a row of times is right
times_right : (rows : List Row) (k : ℕ) (cause : Cause) (w : IsWrongWithOthers rows k cause)
    → w.row.section ≡ Times → ⊥
times_right rows k cause w e = elim w.fault [
  | inl f ↦ (let P : Section → Type 0 = λ s. section_fault s rows k w.row ≡ Some cause in
      let g : None ≡ Some cause = subst P e f in let x : ⊥ = cc in x)
  | inr r ↦ (let P : Section → Type 0 = λ s. IsRefusedIn s rows (holds_action
      (take k rows) w.row) w.row in subst P e r.1)
]

judged_unless_times : (row : Row) → (row.section ≡ Times → ⊥) → is_judged row ≡ true
judged_unless_times row other = by row.section refl
  where
    by : (s : Section) → row.section ≡ s
        → is_judged (record { number = row.number; section = s; words = row.words }) ≡ true
    by Times e = absurd (other e)
    by _ e = refl

-- the first wrong row of all these sections is the first that is wrong with the others
pub found_all : (rows : List Row) (n : ℕ) (found : Option Found)
    → HasFound rows (IsWrongAmong is_judged (IsWrongWithOthers rows) rows) n found
    → HasFound rows (IsWrongWithOthers rows) n found
found_all rows n found is = found_as rows (IsWrongAmong is_judged (IsWrongWithOthers rows) rows)
    (IsWrongWithOthers rows) n
    found (λ k cause w. w.wrong)
    (λ k cause w. record {
      row = w.row;
      row_is = w.row_is;
      member = judged_unless_times w.row (times_right rows k cause w);
      wrong = w;
    }) is
