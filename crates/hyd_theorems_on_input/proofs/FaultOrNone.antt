-- A text in which nothing is a fault is one without a fault.
use Rattle.std.proofs.Common.{◌≡◌, ℕ, zero, suc, ◌<◌, ◌≤◌, ◌^◌, List, length, Option, Some, None, nat_lt, inl, inr, refl}
use Rattle.std.proofs.Common.{arith, ltb-true, ltb-false}
use Rattle.std.specs.Prelude.{slice_get}
use Rattle.std.proofs.lemmas.Bool.{cases_Bool}
use Rattle.hyd_spec_lines.specs.Lines.{Row, items_of, rows_in, fault_in}
use Rattle.hyd_spec_lines.specs.declared.fault.LexFault.{LexFault}
use Rattle.hyd_net.specs.declared.refusal_cause.Cause.{Cause}
use Rattle.hyd_net.specs.declared.refusal_cause.Cause.TheVariants.{Limit}
use Rattle.hyd_spec_input.specs.SingleRows.{IsWrongByItself}
use Rattle.hyd_spec_input.specs.Faults.{IsWrongWithOthers, NoneIs, IsFirst, line_cause, lack, IsFaultOf, IsFault}
use Rattle.hyd_spec_input.specs.Faults.{HasNoFault, IsWrongAlone}
use Rattle.hyd_theorems_on_input.proofs.FormulaInForce.{none_by_itself}

-- a row that is wrong is one of the rows
record HasRow (rows : List Row) (k : ℕ) : Type 0 where
  row : Row
  row_is : slice_get rows k ≡ Some row

-- where no row is the first that is wrong, none of the first n rows is
none_of : (rows : List Row) (Wrong : ℕ → Cause → Type 0) → ((k : ℕ) (cause : Cause) → Wrong k cause → HasRow rows k)
    → ((line : ℕ) (cause : Cause) → IsFirst rows Wrong line cause → ⊥) → (n k : ℕ) (cause : Cause) → k < n
    → Wrong k cause → ⊥
none_of rows Wrong there never zero k cause less wrong = absurd (omega (arith, less))
none_of rows Wrong there never (suc n) k cause less wrong =
    let at = there k cause wrong in
    never at.row.number cause (record {
      place = k;
      wrong = wrong;
      row = at.row;
      row_is = at.row_is;
      line_is = refl;
      earlier = λ j before other also. none_of rows Wrong there never n j other (omega (arith, less, before)) also;
    })

none_is : (rows : List Row) (Wrong : ℕ → Cause → Type 0) → ((k : ℕ) (cause : Cause) → Wrong k cause → HasRow rows k)
    → ((line : ℕ) (cause : Cause) → IsFirst rows Wrong line cause → ⊥) → NoneIs Wrong
none_is rows Wrong there never k cause wrong = none_of rows Wrong there never (suc k) k cause (omega arith) wrong

no_such : (o : Option LexFault) → ((fault : LexFault) → o ≡ Some fault → ⊥) → o ≡ None
no_such None never = refl
no_such (Some fault) never = absurd (never fault refl)

no_lack : (o : Option Cause) → ((cause : Cause) → o ≡ Some cause → ⊥) → o ≡ None
no_lack None never = refl
no_lack (Some cause) never = absurd (never cause refl)

pub fault_or_none : (text : List ℕ) → ((line : ℕ) (cause : Cause) → IsFault text line cause → ⊥) → HasNoFault text
fault_or_none text never =
    let items = items_of text in
    let rows = rows_in items in
    let short : length text ≤ 2 ^ 26 = elim (cases_Bool (nat_lt (2 ^ 26) (length text))) [
      | inl t ↦ absurd (never 0 (Limit 1) (inl (ltb-true (2 ^ 26) (length text) t, refl, refl)))
      | inr f ↦ ltb-false (2 ^ 26) (length text) f
    ] in
    let of : (line : ℕ) (cause : Cause) → IsFaultOf items line cause → ⊥ = λ line cause f. never line cause
    (inr (short, f)) in
    let alone : NoneIs (IsWrongAlone items) = none_is rows (IsWrongAlone items)
    (λ k cause w. record { row = w.row; row_is = w.row_is }) (λ line cause f. of line cause (inl f)) in
    let lines : fault_in items ≡ None = no_such (fault_in items) (λ fault is. of fault.line (line_cause fault.cause)
    (inr (alone, inl (record { fault = fault; fault_is = is; line_is = refl; cause_is = refl })))) in
    let by_itself : NoneIs (IsWrongByItself rows) = none_by_itself items lines alone in
    let with_others : NoneIs (IsWrongWithOthers rows) = none_is rows (IsWrongWithOthers rows)
    (λ k cause w. record { row = w.row; row_is = w.row_is }) (λ line cause f. of line cause (inr (
      alone,
      inr (
        lines,
        inl f,
      ),
    ))) in
    record {
      short = short;
      lines = lines;
      by_itself = by_itself;
      with_others = with_others;
      whole = no_lack (lack rows) (λ cause is. of 0 cause (inr (alone, inr (lines, inr (with_others, refl, is)))));
    }
