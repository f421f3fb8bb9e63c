-- The first wrong row, one row at a time.
use Rattle.std.proofs.Common.{◌≡◌, ◌+◌, ◌<◌, ◌≤◌, ℕ, Bool, true, false, List, [], ◌∷◌, ◌++◌, filter, take, length}
use Rattle.std.proofs.Common.{slice_get, Option, Some, None, refl, sym, ap, ◌∙◌, subst, arith, inl, inr, get_or}
use Rattle.std.proofs.Common.{append-nil, position, drop, append_assoc}
use Rattle.std.specs.Option.{option_map}
use Rattle.std.proofs.lemmas.List.{take_more, take-append-drop}
use Rattle.std.proofs.lemmas.List.Elements.{filter-append}
use Rattle.std.proofs.lemmas.Option.{slice_get-map, slice_get-get_or, slice_get_within, get_or_from_slice_get}
use Rattle.std.proofs.Math.Nat.{eq-or-lt_of_le}
use Rattle.hyd_spec_lines.specs.Lines.{Row, row_of}
use Rattle.hyd_spec_lines.specs.declared.line.Line.{Line}
use Rattle.hyd_spec_input.specs.Faults.{IsFirst, NoneIs}
use Rattle.hyd_net.specs.declared.refusal_cause.Cause.{Cause}
use Rattle.hyd_rows_and_tables.specs.declared.first_wrong.Found.{Found}
use Rattle.hyd_rows_and_tables.specs.FirstWrongRow.{HasFound, IsFirstAt, IsVerdict, kept}
use Rattle.hyd_rows_and_tables.specs.RowsOfLines.{rows_at}
use Rattle.std.specs.Str.{bytes_eq}
use Rattle.std.proofs.lemmas.Bool.{cases_Bool}
use Rattle.hyd_spec_input.specs.SectionsAndTables.{own_id, has_id}
use Rattle.std.specs.Cmp.Lexicographic.{bytes_decides}
use Rattle.std.proofs.lemmas.List.Quantifiers.{position-Some}

-- the row of a line
pub row_at : (text : List ℕ) (lines : List Line) (k : ℕ) (d : Line) → k < length lines
    → slice_get (rows_at text lines) k ≡ Some (row_of text (get_or lines k d))
row_at text lines k d l = slice_get-map (row_of text) lines k
    ∙ ap (option_map (row_of text)) (slice_get-get_or lines k d l)

-- ---- the first rows, one more

next_row : (rows : List Row) (k : ℕ) (row : Row) → slice_get rows k ≡ Some row
    → take (k + 1) rows ≡ take k rows ++ row ∷ []
next_row rows k row is = take_more rows k row (slice_get_within rows k row is)
    ∙ ap (λ (r : Row). take k rows ++ r ∷ []) (get_or_from_slice_get rows k row row is)

pub filter_more : (p : Row → Bool) (rows : List Row) (k : ℕ) (row : Row) → slice_get rows k ≡ Some row → p row ≡ true
    → filter p (take (k + 1) rows) ≡ filter p (take k rows) ++ row ∷ []
filter_more p rows k row is member = ap (filter p) (next_row rows k row is)
    ∙ filter-append p (take k rows) (row ∷ []) ∙ rw member refl

pub filter_same : (p : Row → Bool) (rows : List Row) (k : ℕ) (row : Row) → slice_get rows k ≡ Some row → p row ≡ false
    → filter p (take (k + 1) rows) ≡ filter p (take k rows)
filter_same p rows k row is other = ap (filter p) (next_row rows k row is)
    ∙ filter-append p (take k rows) (row ∷ []) ∙ rw other (append-nil (filter p (take k rows)))

-- ---- the first fault, one row more

-- one more row is right
pub none_more : (rows : List Row) (Wrong : ℕ → Cause → Type 0) (n : ℕ) → HasFound rows Wrong n None
    → ((cause : Cause) → Wrong n cause → ⊥) → HasFound rows Wrong (n + 1) None
none_more rows Wrong n before here k l cause w =
    let m : k ≤ n = omega (arith, l) in
    elim (eq-or-lt_of_le m) [
      | inl e ↦ here cause (let P : ℕ → Type 0 = λ x. Wrong x cause in subst P e w)
      | inr s ↦ before k s cause w
    ]

-- the next row is the first wrong one
pub first_here : (rows : List Row) (Wrong : ℕ → Cause → Type 0) (n : ℕ) (row : Row) (cause : Cause)
    → HasFound rows Wrong n None → slice_get rows n ≡ Some row → Wrong n cause
    → IsFirstAt rows Wrong (record { place = n; line = row.number; cause = cause })
first_here rows Wrong n row cause before is w =
    record { wrong = w; row = row; row_is = is; line_is = refl; earlier = before }

pub found_skip : (rows : List Row) (Wrong : ℕ → Cause → Type 0) (n : ℕ) (found : Option Found)
    → HasFound rows Wrong n found → ((cause : Cause) → Wrong n cause → ⊥)
    → HasFound rows Wrong (n + 1) found
found_skip rows Wrong n None before here = none_more rows Wrong n before here
found_skip rows Wrong n (Some found) before here = before

pub found_kept : (rows : List Row) (Wrong : ℕ → Cause → Type 0) (n : ℕ) (row : Row) (found : Option Found)
    (cause : Option Cause) → HasFound rows Wrong n found
    → slice_get rows n ≡ Some row → IsVerdict (Wrong n) cause
    → HasFound rows Wrong (n + 1) (kept found n row.number cause)
found_kept rows Wrong n row (Some found) cause before is verdict = before
found_kept rows Wrong n row None None before is verdict = none_more rows Wrong n before verdict
found_kept rows Wrong n row None (Some cause) before is verdict = first_here rows Wrong n row cause before is verdict

-- a verdict by what is computed
pub verdict_of : (Wrong : Cause → Type 0) (fault cause : Option Cause) → cause ≡ fault
    → ((c : Cause) → Wrong c → fault ≡ Some c) → ((c : Cause) → fault ≡ Some c → Wrong c)
    → IsVerdict Wrong cause
verdict_of Wrong fault None e to from = λ c w. let f : fault ≡ Some c = to c w in absurd (let x : ⊥ = cc in x)
verdict_of Wrong fault (Some c) e to from = from c (sym e)

-- ---- the first fault of all rows

pub first_of : (rows : List Row) (Wrong : ℕ → Cause → Type 0) (found : Found) → IsFirstAt rows Wrong found
    → IsFirst rows Wrong found.line found.cause
first_of rows Wrong found is = record {
  place = found.place;
  wrong = is.wrong;
  row = is.row;
  row_is = is.row_is;
  line_is = is.line_is;
  earlier = is.earlier;
}

-- where all rows were judged
pub none_of : (rows : List Row) (Wrong : ℕ → Cause → Type 0) (n : ℕ) → HasFound rows Wrong n None → length rows ≤ n
    → ((k : ℕ) (cause : Cause) → Wrong k cause → k < length rows) → NoneIs Wrong
none_of rows Wrong n none all within k cause w = none k (omega (arith, within k cause w, all)) cause w

pub has_between : (name : List ℕ) (xs ys : List Row) (row : Row) → bytes_eq name (own_id row) ≡ true
    → has_id name (xs ++ row ∷ ys) ≡ true
has_between name [] ys row t = rw t refl
has_between name (x ∷ xs) ys row t = elim (cases_Bool (bytes_eq name (own_id x))) [
  | inl here ↦ rw here refl
  | inr other ↦ rw other (has_between name xs ys row t)
]

-- two names with one number are the same
pub one_name : (names : List (List ℕ)) (a b : List ℕ) (k : ℕ) → position (bytes_eq a) names ≡ Some k
    → position (bytes_eq b) names ≡ Some k → a ≡ b
one_name names a b k p q =
    let x : a ≡ get_or names k [] = (bytes_decides a (get_or names k [])).0 (position-Some
    (bytes_eq a) names k [] p).1 in
    let y : b ≡ get_or names k [] = (bytes_decides b (get_or names k [])).0 (position-Some
    (bytes_eq b) names k [] q).1 in
    x ∙ sym y

pub has_more : (p : Row → Bool) (rows : List Row) (k : ℕ) (row : Row) → slice_get rows k ≡ Some row → p row ≡ true
    → has_id (own_id row) (filter p rows) ≡ true
has_more p rows k row is member =
    let parts : filter p rows ≡ filter p (take k rows) ++ row ∷ filter p (drop (k + 1) rows) =
    ap (filter p) (sym (take-append-drop (k + 1) rows))
    ∙ filter-append p (take (k + 1) rows) (drop (k + 1) rows)
    ∙ ap (λ (rs : List Row). rs ++ filter p (drop (k + 1) rows)) (filter_more p rows k row is member)
    ∙ simp append_assoc in
    rw parts (has_between (own_id row) (filter p (take k rows)) (filter p (drop (k + 1) rows)) row
    ((bytes_decides (own_id row) (own_id row)).1 refl))

pub not_named : (name : List ℕ) (row : Row) → bytes_eq name (own_id row) ≡ true → name ≡ own_id row
not_named name row t = (bytes_decides name (own_id row)).0 t
