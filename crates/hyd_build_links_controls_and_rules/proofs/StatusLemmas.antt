-- The last rows of [STATUS] that name each link, one row further.
use Rattle.std.proofs.Common.{◌≡◌, ◌+◌, ◌<◌, ◌≤◌, ℕ, true, false, List, length, take, Option, Some, None, slice_get}
use Rattle.std.proofs.Common.{refl, sym, ap, ◌∙◌, arith, inl, inr, true≢false, get_or, nat_lt, ltb-true, ltb-false}
use Rattle.std.specs.Prelude.{slice_set, IfSome}
use Rattle.std.specs.List.{All}
use Rattle.std.specs.Str.{bytes_eq}
use Rattle.std.proofs.lemmas.Bool.{cases_Bool}
use Rattle.std.proofs.lemmas.List.{get_or-set_same, get_or-set_other, length-set}
use Rattle.std.proofs.lemmas.List.Elements.{All-set}
use Rattle.std.proofs.Math.ListN.{get_or-eq_default}
use Rattle.hyd_spec_lines.specs.Lines.{Row, LiesIn, row_of}
use Rattle.hyd_spec_lines.specs.declared.line.Line.{Line}
use Rattle.hyd_spec_lines.specs.declared.section.Section.TheVariants.{Status}
use Rattle.hyd_spec_input.specs.MeaningsAcrossRows.{number_in, last_naming}
use Rattle.hyd_spec_input.specs.SectionsAndTables.{is_of, rows_of, own_id}
use Rattle.hyd_rows_and_tables.proofs.FirstWrongRowLemmas.{filter_more, filter_same}
use Rattle.hyd_rows_and_tables.proofs.WrongInSectionLemmas.{all_rows}
use Rattle.hyd_rows_and_tables.specs.RowsOfLines.{rows_at, row_in}
use Rattle.hyd_rows_and_tables.specs.IdTables.{AreNone}
use Rattle.hyd_theorems_on_input.proofs.OccurrencesOfNames.{same_name, itself, number_names}
use Rattle.hyd_build_links_controls_and_rules.specs.Statuses.{AreStatuses}
use Rattle.hyd_theorems_on_input.proofs.OptionsAndTimesInForce.{last_where_push}

-- ---- the last row that passes, one row more

last_here : (name : List ℕ) (rows : List Row) (k : ℕ) (row : Row) → slice_get rows k ≡ Some row
    → is_of Status row ≡ true → bytes_eq name (own_id row) ≡ true
    → last_naming name (rows_of Status (take (k + 1) rows)) ≡ Some row
last_here name rows k row is member t =
    ap (last_naming name) (filter_more (is_of Status) rows k row is member)
    ∙ last_where_push (λ r. bytes_eq name (own_id r)) (rows_of Status (take k rows)) row ∙ rw t refl

last_before : (name : List ℕ) (rows : List Row) (k : ℕ) (row : Row) → slice_get rows k ≡ Some row
    → is_of Status row ≡ true → bytes_eq name (own_id row) ≡ false
    → last_naming name (rows_of Status (take (k + 1) rows)) ≡ last_naming name (rows_of Status (take k rows))
last_before name rows k row is member f =
    ap (last_naming name) (filter_more (is_of Status) rows k row is member)
    ∙ last_where_push (λ r. bytes_eq name (own_id r)) (rows_of Status (take k rows)) row ∙ rw f refl

-- ---- rows

pub skip_row : (text : List ℕ) (rows : List Row) (k : ℕ) (row : Row) (names : List (List ℕ))
    (last : List (Option Line)) → AreStatuses text rows k names last → slice_get rows k ≡ Some row
    → is_of Status row ≡ false → AreStatuses text rows (k + 1) names last
skip_row text rows k row names last before is other = record {
  even = before.even;
  lie = before.lie;
  named = λ name number e. before.named name number e
      ∙ sym (ap (last_naming name) (filter_same (is_of Status) rows k row is other));
}

pub unknown_row : (text : List ℕ) (rows : List Row) (k : ℕ) (row : Row) (names : List (List ℕ))
    (last : List (Option Line)) → AreStatuses text rows k names last → slice_get rows k ≡ Some row
    → is_of Status row ≡ true → number_in names (own_id row) ≡ None → AreStatuses text rows (k + 1) names last
unknown_row text rows k row names last before is member none = record {
  even = before.even;
  lie = before.lie;
  named = λ name number e. elim (cases_Bool (bytes_eq name (own_id row))) [
    | inl t ↦ (let same : name ≡ own_id row = same_name name (own_id row) t in
        let there : number_in names (own_id row) ≡ Some number = rw (← same) e in
        absurd (let x : ⊥ = cc in x))
    | inr f ↦ before.named name number e ∙ sym (last_before name rows k row is member f)
  ];
}

pub add_row : (text : List ℕ) (rows : List Row) (k : ℕ) (line : Line) (names : List (List ℕ))
    (last : List (Option Line)) (at : ℕ) → AreStatuses text rows k names last
    → slice_get rows k ≡ Some (row_of text line) → is_of Status (row_of text line) ≡ true → LiesIn text line
    → number_in names (own_id (row_of text line)) ≡ Some at → at < length last
    → AreStatuses text rows (k + 1) names (slice_set last at (Some line))
add_row text rows k line names last at before is member lies there l = record {
  even = length-set last at (Some line) ∙ before.even;
  lie = All-set (λ (o : Option Line). IfSome o (LiesIn text)) last at (Some line) lies before.lie;
  named = λ name number e. elim (cases_Bool (bytes_eq name (own_id (row_of text line)))) [
    | inl t ↦ (let same : name ≡ own_id (row_of text line) = same_name name (own_id (row_of text line)) t in
        let here : number_in names (own_id (row_of text line)) ≡ Some number = rw (← same) e in
        let n : number ≡ at = cc in
        rw n (ap (row_in text) (get_or-set_same last at (Some line) None l))
        ∙ sym (last_here name rows k (row_of text line) is member t))
    | inr f ↦ ap (row_in text) (get_or-set_other last at number (Some line) None (λ n.
        let a = number_names names name number e in
        let b = number_names names (own_id (row_of text line)) at there in
        let c : slice_get names at ≡ Some name = rw (← n) a in
        let same : name ≡ own_id (row_of text line) = cc in
        true≢false (sym (rw (← same) (itself name)) ∙ f)))
        ∙ before.named name number e ∙ sym (last_before name rows k (row_of text line) is member f)
  ];
}

-- ---- before the first row, and after the last one

none_at : (last : List (Option Line)) (number : ℕ) → All (λ (line : Option Line). line ≡ None) last
    → get_or last number None ≡ None
none_at last number none = elim (cases_Bool (nat_lt number (length last))) [
  | inl t ↦ none number None (ltb-true number (length last) t)
  | inr f ↦ get_or-eq_default last None (ltb-false number (length last) f)
]

none_lie : (text : List ℕ) (o : Option Line) → o ≡ None → IfSome o (LiesIn text)
none_lie text None e = tt
none_lie text (Some line) e = absurd (let x : ⊥ = cc in x)

pub before_rows : (text : List ℕ) (rows : List Row) (names : List (List ℕ)) (last : List (Option Line))
    → AreNone last (length names) → AreStatuses text rows 0 names last
before_rows text rows names last none = record {
  even = none.count_is;
  lie = λ k d l. none_lie text (get_or last k d) (none.none k d l);
  named = λ name number e. ap (row_in text) (none_at last number none.none);
}

pub after_rows : (text : List ℕ) (lines : List Line) (k : ℕ) (names : List (List ℕ)) (last : List (Option Line))
    → AreStatuses text (rows_at text lines) k names last → length lines ≤ k
    → AreStatuses text (rows_at text lines) (length lines) names last
after_rows text lines k names last noted l = record {
  even = noted.even;
  lie = noted.lie;
  named = λ name number e. noted.named name number e
      ∙ ap (λ (rs : List Row). last_naming name (rows_of Status rs))
      (all_rows text lines k l ∙ sym (all_rows text lines (length lines) (omega arith)));
}
