-- The points of curves, one row further.
use Rattle.std.proofs.Common.{◌≡◌, All, ◌+◌, ◌<◌, ◌≤◌, ◌++◌, ℕ, true, false, List, [], ◌∷◌, map, length, take, position}
use Rattle.std.proofs.Common.{Option, Some, None, slice_get, refl, sym, ap, ◌∙◌, subst, arith, ◌==◌, true≢false, get_or}
use Rattle.std.proofs.Common.{inl, inr, append-nil, nat_lt, ltb-true, ltb-false}
use Rattle.std.specs.Prelude.{slice_set}
use Rattle.std.specs.Str.{bytes_eq}
use Rattle.std.specs.Cmp.Lexicographic.{bytes_decides}
use Rattle.std.proofs.lemmas.Bool.{cases_Bool}
use Rattle.std.proofs.lemmas.List.{map-set, map-append, length-map, get_or-set_same, get_or-set_other, length-set}
use Rattle.std.proofs.lemmas.List.{get_or-map}
use Rattle.std.proofs.lemmas.List.Elements.{filter-append}
use Rattle.std.proofs.Math.ListN.{get_or-eq_default}
use Rattle.hyd_spec_lines.specs.Lines.{Row}
use Rattle.hyd_spec_lines.specs.declared.line.Line.{Line}
use Rattle.hyd_spec_lines.specs.declared.section.Section.{Section}
use Rattle.hyd_spec_lines.specs.declared.section.Section.TheVariants.{Curves}
use Rattle.hyd_net.specs.ListView.{ListView}
use Rattle.hyd_spec_input.specs.SingleRows as itself
use Rattle.hyd_spec_input.specs.SingleRows.{IsWrongByItself}
use Rattle.hyd_spec_input.specs.DemandEmitterCurvePatternAndStatusRows as row_form
use Rattle.hyd_spec_input.specs.Faults.{NoneIs}
use Rattle.hyd_spec_input.specs.MeaningsAcrossRows.{number_in}
use Rattle.hyd_spec_input.specs.SectionsAndTables.{Point, place, is_of, rows_of, rows_with, own_id, point_of}
use Rattle.hyd_spec_input.specs.SectionsAndTables.{curve_named}
use Rattle.hyd_spec_input.specs.SectionsAndTables.{row_with, has_id}
use Rattle.hyd_spec_input.specs.Columns.{word, or_empty}
use Rattle.hyd_network_rows.specs.Rows.{IsCurveRow}
use Rattle.hyd_network_rows.specs.declared.demands_emitters_curves_and_statuses.CurveRow.{CurveRow}
use Rattle.hyd_rows_and_tables.specs.IdTables.{AreFirsts, AreEmpty}
use Rattle.hyd_rows_and_tables.proofs.FirstWrongRowLemmas.{filter_more, filter_same, one_name, has_more, not_named}
use Rattle.hyd_rows_and_tables.proofs.WrongInSectionLemmas.{all_rows}
use Rattle.hyd_rows_and_tables.specs.RowsOfLines.{rows_at}
use Rattle.hyd_rows_and_tables.proofs.TableLemmas.{not_found, has_id-is, even}
use Rattle.hyd_curves.specs.Points.{points_in, point_in, each, list_of, ArePoints, AreGathered, HasOneMore}
use Rattle.hyd_curves.specs.declared.points.CurvePoint.{CurvePoint}
use Rattle.hyd_curves.specs.declared.points.Points.{Points}
use Rattle.hyd_theorems_on_input.proofs.RowsWithoutFault.{none_alone}

-- ---- lists

abbrev points_of : ListView CurvePoint → List Point
points_of list = points_in list.list

pub one_more : (lists : List (ListView CurvePoint)) (number : ℕ) (was now : ListView CurvePoint) (point : CurvePoint)
    → number < length lists → was ≡ get_or lists number was → now.list ≡ was.list ++ point ∷ []
    → HasOneMore (each lists) (each (slice_set lists number now)) number (point_in point)
one_more lists number was now point l w n =
    let e : each (slice_set lists number now) ≡ slice_set (each lists) number (points_of now) =
    map-set points_of lists number now in
    let m : length (each lists) ≡ length lists = length-map lists points_of in
    let old : get_or (each lists) number [] ≡ points_of was =
    get_or-map points_of lists number was [] l ∙ ap points_of (sym w) in
    let new : points_of now ≡ points_of was ++ point_in point ∷ [] =
    ap points_in n ∙ map-append point_in was.list (point ∷ []) in
    record {
      even = rw e (length-set (each lists) number (points_of now));
      here = rw (e, old) (get_or-set_same (each lists) number (points_of now) [] (omega (arith, m, l)) ∙ new);
      others = λ k apart. rw e (get_or-set_other (each lists) number k (points_of now) [] apart);
    }

no_points : (lists : List (ListView CurvePoint)) (k : ℕ) → All (λ (list : ListView CurvePoint). list.list ≡ []) lists
    → get_or (each lists) k [] ≡ []
no_points lists k none =
    let d : ListView CurvePoint = record { list = []; spare = 0 } in
    elim (cases_Bool (nat_lt k (length lists))) [
      | inl t ↦ (let l : k < length lists = ltb-true k (length lists) t in
          get_or-map points_of lists k d [] l ∙ ap points_in (none k d l))
      | inr f ↦ get_or-eq_default (each lists) [] (omega (
        arith,
        length-map lists points_of,
        ltb-false k (length
            lists) f,
      ))
    ]

none_listed : (lists : List (ListView CurvePoint)) (count : ℕ) → AreEmpty lists count → (found : Option ℕ)
    → list_of (each lists) found ≡ []
none_listed lists count empty None = refl
none_listed lists count empty (Some k) = no_points lists k empty.none

-- before the first row
pub before_rows : (text : List ℕ) (rows : List Row) (names : List (List ℕ)) (firsts : List Line) (points : Points)
    → AreFirsts text (rows_of Curves rows) names firsts → AreEmpty points.lists.items (length firsts)
    → AreGathered rows 0 names points
before_rows text rows names firsts points table empty = record {
  even = empty.count_is ∙ sym (even text (rows_of Curves rows) names firsts table);
  points_are = record { named = λ name. none_listed points.lists.items (length firsts) empty (number_in names name) };
}

-- ---- the points of a curve, one row further

more_here : (rows : List Row) (k : ℕ) (row : Row) (name : List ℕ) → slice_get rows k ≡ Some row
    → is_of Curves row ≡ true → bytes_eq name (own_id row) ≡ true
    → curve_named (take (k + 1) rows) name ≡ curve_named (take k rows) name ++ point_of row ∷ []
more_here rows k row name is member same =
    ap (λ (rs : List Row). map point_of (rows_with name rs)) (filter_more (is_of Curves) rows k row is member)
    ∙ ap (map point_of) (filter-append (λ (r : Row). bytes_eq name (own_id r)) (rows_of Curves (take k rows)) (row ∷ [])
    ∙ rw same refl)
    ∙ map-append point_of (rows_with name (rows_of Curves (take k rows))) (row ∷ [])

none_here : (rows : List Row) (k : ℕ) (row : Row) (name : List ℕ) → slice_get rows k ≡ Some row
    → is_of Curves row ≡ true → bytes_eq name (own_id row) ≡ false
    → curve_named (take (k + 1) rows) name ≡ curve_named (take k rows) name
none_here rows k row name is member other =
    ap (λ (rs : List Row). map point_of (rows_with name rs)) (filter_more (is_of Curves) rows k row is member)
    ∙ ap (map point_of) (filter-append (λ (r : Row). bytes_eq name (own_id r)) (rows_of Curves (take k rows)) (row ∷ [])
    ∙ rw other (append-nil (rows_with name (rows_of Curves (take k rows)))))

-- the list of a number that a name may have
list_more : (rows : List Row) (k : ℕ) (row : Row) (names : List (List ℕ)) (before after : List (List Point))
    (number : ℕ) (point : Point) (name : List ℕ) → slice_get rows k ≡ Some row → is_of Curves row ≡ true
    → position (bytes_eq (own_id row)) names ≡ Some number → point ≡ point_of row
    → HasOneMore before after number point → (found : Option ℕ) → found ≡ number_in names name
    → list_of before found ≡ curve_named (take k rows) name
    → list_of after found ≡ curve_named (take (k + 1) rows) name
list_more rows k row names before after number point name is member there p more None f was =
    elim (cases_Bool (bytes_eq name (own_id row))) [
      | inl t ↦ (let e : name ≡ own_id row = not_named name row t in
          let g : None ≡ Some number = f ∙ rw e there in
          absurd (let x : ⊥ = cc in x))
      | inr o ↦ was ∙ sym (none_here rows k row name is member o)
    ]
list_more rows k row names before after number point name is member there p more (Some found) f was =
    elim (cases_Bool (bytes_eq name (own_id row))) [
      | inl t ↦ (let e : name ≡ own_id row = not_named name row t in
          let g : Some found ≡ Some number = f ∙ rw e there in
          let n : found ≡ number = cc in
          rw n (more.here ∙ ap (λ (ps : List Point). ps ++ point ∷ []) (rw n at was)
          ∙ ap (λ (q : Point). curve_named (take k rows) name ++ q ∷ []) p ∙ sym (more_here rows k row name is
          member t)))
      | inr o ↦ more.others found (λ n.
          let e : name ≡ own_id row = one_name names name (own_id row) found (sym f) (there ∙ ap Some (sym n)) in
          true≢false (sym ((bytes_decides name (own_id row)).1 e) ∙ o))
          ∙ was ∙ sym (none_here rows k row name is member o)
    ]

pub add_row : (rows : List Row) (k : ℕ) (row : Row) (names : List (List ℕ)) (points next : Points) (number : ℕ)
    (point : Point) → AreGathered rows k names points → slice_get rows k ≡ Some row → is_of Curves row ≡ true
    → position (bytes_eq (own_id row)) names ≡ Some number → point ≡ point_of row
    → HasOneMore (each points.lists.items) (each next.lists.items) number point → AreGathered rows (k + 1) names next
add_row rows k row names points next number point before is member there p more =
    let a : length (each next.lists.items) ≡ length next.lists.items = length-map next.lists.items points_of in
    let b : length (each points.lists.items) ≡ length points.lists.items = length-map points.lists.items points_of in
    record {
      even = omega (arith, a, b, more.even, before.even);
      points_are = record {
        named = λ name.
            list_more rows k row names (each points.lists.items) (each next.lists.items) number point name is member
            there
            p more (number_in names name) refl (before.points_are.named name);
      };
    }

pub skip_row : (rows : List Row) (k : ℕ) (row : Row) (names : List (List ℕ)) (points : Points)
    → AreGathered rows k names points → slice_get rows k ≡ Some row → is_of Curves row ≡ false
    → AreGathered rows (k + 1) names points
skip_row rows k row names points before is other =
    let same : rows_of Curves (take (k + 1) rows) ≡ rows_of Curves (take k rows) =
    filter_same (is_of Curves) rows k row is other in
    record {
      even = before.even;
      points_are = record {
        named = λ name. before.points_are.named name
            ∙ sym (ap (λ (rs : List Row). map point_of (rows_with name rs)) same);
      };
    }

-- ---- a row of curves

by_itself : (section : Section) (earlier : List (List (List ℕ))) (words : List (List ℕ)) (later : List (List (List ℕ)))
    → (place section == 8) ≡ true → itself.section_fault section earlier words later ≡ row_form.curve words
by_itself Curves earlier words later h = refl
by_itself _ earlier words later h = absurd (true≢false (sym h))

-- it is right by itself
pub curve_is_right : (rows : List Row) (k : ℕ) (row : Row) → NoneIs (IsWrongByItself rows)
    → slice_get rows k ≡ Some row → is_of Curves row ≡ true → row_form.curve row.words ≡ None
curve_is_right rows k row right is member =
    sym (by_itself row.section _ row.words _ member)
    ∙ none_alone rows k row right is

-- its ID is in the table
pub number_is_there : (text : List ℕ) (rows : List Row) (k : ℕ) (row : Row) (names : List (List ℕ))
    (firsts : List Line) → AreFirsts text (rows_of Curves rows) names firsts → slice_get rows k ≡ Some row
    → is_of Curves row ≡ true → position (bytes_eq (own_id row)) names ≡ None → ⊥
number_is_there text rows k row names firsts table is member none =
    let no : row_with (own_id row) (rows_of Curves rows) ≡ None =
    not_found text (rows_of Curves rows) names firsts (own_id row) table none in
    let there : has_id (own_id row) (rows_of Curves rows) ≡ true = has_more (is_of Curves) rows k row is member in
    let gone : has_id (own_id row) (rows_of Curves rows) ≡ false = has_id-is (own_id row) (rows_of Curves rows) ∙ rw
    no refl in
    true≢false (sym there ∙ gone)

-- ---- all rows

pub after_rows : (text : List ℕ) (lines : List Line) (k : ℕ) (names : List (List ℕ)) (points : Points)
    → AreGathered (rows_at text lines) k names points → length lines ≤ k → ArePoints (rows_at text lines) names points
after_rows text lines k names points gathered l =
    let P : List Row → Type 0 = λ rs. ArePoints rs names points in
    subst P (all_rows text lines k l) gathered.points_are

-- ---- what a row says

pub id_is : (words : List (List ℕ)) (row : CurveRow) → IsCurveRow words row → word 0 words ≡ row.id.now
id_is words row is = ap or_empty is.id

pub point_is : (words : List (List ℕ)) (row : CurveRow) (r : Row) → words ≡ r.words → IsCurveRow words row
    → point_in (record { x = row.x; y = row.y }) ≡ point_of r
point_is words row r e is = rw (is.x, is.y, e) refl
