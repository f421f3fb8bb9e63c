-- A text has one fault at most, and a text without a fault has none.
use Rattle.std.proofs.Common.{◌≡◌, ℕ, ◌<◌, ◌≤◌, ◌^◌, List, length, Option, Some, None, sym, ap, ◌∙◌, subst, arith, inl}
use Rattle.std.proofs.Common.{inr}
use Rattle.std.specs.Prelude.{slice_get, Result, Bool}
use Rattle.hyd_spec_lines.specs.Lines.{Row, items_of, rows_in, all_rows_in, fault_in}
use Rattle.hyd_spec_lines.specs.declared.fault.LexFault.{LexFault}
use Rattle.hyd_net.specs.declared.refusal_cause.Cause.{Cause}
use Rattle.hyd_spec_input.specs.SingleRows as itself
use Rattle.hyd_spec_input.specs.SingleRows.{IsWrongBy, IsWrongByItself}
use Rattle.hyd_spec_input.specs.FaultsWithOtherRows as others
use Rattle.hyd_spec_input.specs.Faults.{IsWrongWithOthers, NoneIs, IsFirst, line_cause, IsLineFault, lack, IsLater}
use Rattle.hyd_spec_input.specs.Faults.{IsFaultOf, IsFault, HasNoFault, IsWrongAlone}
use Rattle.hyd_spec_input.specs.OptionsAndTimesInForce.{has_hazen_williams}
use Rattle.hyd_theorems_on_input.proofs.FormulaInForce.{none_alone_again}
use Rattle.hyd_lemmas.proofs.BooleanTests.{equal_by_order}

-- two faults have the same line and cause
pub record Same (line other : ℕ) (cause second : Cause) : Type 0 where
  pub lines : line ≡ other
  pub causes : cause ≡ second

-- ---- the first wrong row

-- where a row has one cause at most, the first wrong row has one line and cause
one_first : (rows : List Row) (Wrong : ℕ → Cause → Type 0) (line other : ℕ) (cause second : Cause)
    → ((k : ℕ) (a b : Cause) → Wrong k a → Wrong k b → a ≡ b)
    → IsFirst rows Wrong line cause → IsFirst rows Wrong other second → Same line other cause second
one_first rows Wrong line other cause second one f g =
    let place : f.place ≡ g.place = equal_by_order f.place g.place
    (λ before. g.earlier f.place before cause f.wrong) (λ before. f.earlier g.place before second g.wrong) in
    let there : Wrong g.place cause = subst (λ k. Wrong k cause) place f.wrong in
    let is : slice_get rows g.place ≡ Some f.row = subst (λ k. slice_get rows k ≡ Some f.row) place f.row_is in
    let also : slice_get rows g.place ≡ Some g.row = g.row_is in
    let row : f.row ≡ g.row = cc in
    record {
      lines = f.line_is ∙ ap (λ (r : Row). r.number) row ∙ sym g.line_is;
      causes = one g.place cause second there g.wrong;
    }

-- ---- a row has one cause at most

same_cause : (o : Option Cause) (a b : Cause) → o ≡ Some a → o ≡ Some b → a ≡ b
same_cause o a b e f = cc

never_both : (o : Option Cause) (a : Cause) → o ≡ Some a → o ≡ None → ⊥
never_both o a e f = cc

same_row : (rows : List Row) (k : ℕ) (a b : Row) → slice_get rows k ≡ Some a → slice_get rows k ≡ Some b → a ≡ b
same_row rows k a b e f = cc

one_by_itself : (by_power : Bool) (rows : List Row) (k : ℕ) (a b : Cause) → IsWrongBy by_power rows k a
    → IsWrongBy by_power rows k b → a ≡ b
one_by_itself by_power rows k a b f g =
    let row : f.row ≡ g.row = same_row rows k f.row g.row f.row_is g.row_is in
    same_cause (itself.row_fault_by by_power rows k g.row) a b
    (subst (λ (r : Row). itself.row_fault_by by_power rows k r ≡ Some a) row f.fault) g.fault

one_with_others : (rows : List Row) (k : ℕ) (a b : Cause) → IsWrongWithOthers rows k a → IsWrongWithOthers rows k b
    → a ≡ b
one_with_others rows k a b f g =
    let row : f.row ≡ g.row = same_row rows k f.row g.row f.row_is g.row_is in
    let fault : Option Cause = others.row_fault rows k g.row in
    elim f.fault [
      | inl x ↦ (let found : others.row_fault rows k g.row ≡ Some a =
          subst (λ (r : Row). others.row_fault rows k r ≡ Some a) row x in
          elim g.fault [
            | inl y ↦ same_cause fault a b found y
            | inr y ↦ absurd (never_both fault a found y.0)
          ])
      | inr x ↦ (let none : others.row_fault rows k g.row ≡ None =
          subst (λ (r : Row). others.row_fault rows k r ≡ None) row x.0 in
          elim g.fault [
            | inl y ↦ absurd (never_both fault b y none)
            | inr y ↦ x.2 ∙ sym y.2
          ])
    ]

-- ---- after the rows

one_line_fault : (items : List (Result Row LexFault)) (line other : ℕ) (cause second : Cause)
    → IsLineFault items line cause → IsLineFault items other second → Same line other cause second
one_line_fault items line other cause second f g =
    let found : fault_in items ≡ Some f.fault = f.fault_is in
    let also : fault_in items ≡ Some g.fault = g.fault_is in
    let same : f.fault ≡ g.fault = cc in
    record {
      lines = f.line_is ∙ ap (λ (x : LexFault). x.line) same ∙ sym g.line_is;
      causes = f.cause_is ∙ ap (λ (x : LexFault). line_cause x.cause) same ∙ sym g.cause_is;
    }

no_line_fault : (items : List (Result Row LexFault)) (line : ℕ) (cause : Cause) → fault_in items ≡ None
    → IsLineFault items line cause → ⊥
no_line_fault items line cause none f = let found : fault_in items ≡ Some f.fault = f.fault_is in cc

none_first : (rows : List Row) (Wrong : ℕ → Cause → Type 0) (line : ℕ) (cause : Cause) → NoneIs Wrong
    → IsFirst rows Wrong line cause → ⊥
none_first rows Wrong line cause none f = none f.place cause f.wrong

one_later : (rows : List Row) (line other : ℕ) (cause second : Cause) → IsLater rows line cause
    → IsLater rows other second → Same line other cause second
one_later rows line other cause second f g = elim f [
  | inl x ↦ (elim g [
    | inl y ↦ one_first rows (IsWrongWithOthers rows) line other cause second (one_with_others rows) x y
    | inr y ↦ absurd (none_first rows (IsWrongWithOthers rows) line cause y.0 x)
  ])
  | inr x ↦ (elim g [
    | inl y ↦ absurd (none_first rows (IsWrongWithOthers rows) other second x.0 y)
    | inr y ↦ record { lines = x.1 ∙ sym y.1; causes = same_cause (lack rows) cause second x.2 y.2 }
  ])
]

-- ---- a text

one_of_items : (items : List (Result Row LexFault)) (line other : ℕ) (cause second : Cause)
    → IsFaultOf items line cause → IsFaultOf items other second → Same line other cause second
one_of_items items line other cause second f g =
    let rows = rows_in items in
    elim f [
      | inl x ↦ (elim g [
        | inl y ↦ one_first rows (IsWrongAlone items) line other cause second
            (one_by_itself (has_hazen_williams (all_rows_in items)) rows) x y
        | inr y ↦ absurd (none_first rows (IsWrongAlone items) line cause y.0 x)
      ])
      | inr x ↦ (elim g [
        | inl y ↦ absurd (none_first rows (IsWrongAlone items) other second x.0 y)
        | inr y ↦ (elim x.1 [
          | inl l ↦ (elim y.1 [
            | inl m ↦ one_line_fault items line other cause second l m
            | inr m ↦ absurd (no_line_fault items line cause m.0 l)
          ])
          | inr l ↦ (elim y.1 [
            | inl m ↦ absurd (no_line_fault items other second l.0 m)
            | inr m ↦ one_later rows line other cause second l.1 m.1
          ])
        ])
      ])
    ]

pub one_fault : (text : List ℕ) (line other : ℕ) (cause second : Cause) → IsFault text line cause
    → IsFault text other second → Same line other cause second
one_fault text line other cause second f g = elim f [
  | inl x ↦ (elim g [
    | inl y ↦ record { lines = x.1 ∙ sym y.1; causes = x.2 ∙ sym y.2 }
    | inr y ↦ absurd (omega (arith, x.0, y.0))
  ])
  | inr x ↦ (elim g [
    | inl y ↦ absurd (omega (arith, x.0, y.0))
    | inr y ↦ one_of_items (items_of text) line other cause second x.1 y.1
  ])
]

none_of_items : (items : List (Result Row LexFault)) (line : ℕ) (cause : Cause) → fault_in items ≡ None
    → NoneIs (IsWrongByItself (rows_in items)) → NoneIs (IsWrongWithOthers (rows_in items))
    → lack (rows_in items) ≡ None → IsFaultOf items line cause → ⊥
none_of_items items line cause lines by_itself with_others whole f = elim f [
  | inl x ↦ none_first (rows_in items) (IsWrongAlone items) line cause (none_alone_again items lines by_itself) x
  | inr x ↦ (elim x.1 [
    | inl l ↦ no_line_fault items line cause lines l
    | inr l ↦ (elim l.1 [
      | inl m ↦ none_first (rows_in items) (IsWrongWithOthers (rows_in items)) line cause with_others m
      | inr m ↦ never_both (lack (rows_in items)) cause m.2 whole
    ])
  ])
]

pub no_fault_beside : (text : List ℕ) (line : ℕ) (cause : Cause) → IsFault text line cause → HasNoFault text → ⊥
no_fault_beside text line cause f none = elim f [
  | inl x ↦ (let long : 2 ^ 26 < length text = x.0 in let short : length text ≤ 2 ^ 26 = none.short in
      absurd (omega arith))
  | inr x ↦ none_of_items (items_of text) line cause none.lines none.by_itself none.with_others none.whole x.1
]
