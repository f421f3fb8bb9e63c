-- Names that have numbers.
use Rattle.std.proofs.Common.{◌≡◌, ℕ, ◌+◌, ◌≤◌, zero, suc, Bool, true, false, List, [], ◌∷◌, ◌++◌, map, Option, Some}
use Rattle.std.proofs.Common.{None, slice_get, refl, sym, ap, ◌∙◌, arith, inl, inr, true≢false}
use Rattle.std.specs.Prelude.{filter}
use Rattle.std.specs.List.{flat_map}
use Rattle.std.specs.Option.{option_map}
use Rattle.std.specs.Str.{bytes_eq}
use Rattle.std.proofs.lemmas.Bool.{cases_Bool, or_left, or_right}
use Rattle.std.proofs.lemmas.List.{map-append}
use Rattle.std.proofs.lemmas.Option.{slice_get-map}
use Rattle.hyd_spec_lines.specs.Lines.{Row}
use Rattle.hyd_spec_lines.specs.declared.line.Line.{Line}
use Rattle.hyd_spec_lines.specs.declared.section.Section.TheVariants.{Junctions, Reservoirs, Tanks, Pumps, Valves}
use Rattle.hyd_spec_input.specs.NodeAndLinkRows.{pump_curve, valve_curve}
use Rattle.hyd_spec_input.specs.MeaningsAcrossRows.{node_ids, number_in, is_among, as_list, bent_name, bend_names}
use Rattle.hyd_spec_input.specs.Curves.{is_bent}
use Rattle.hyd_spec_input.specs.SectionsAndTables.{is_of, is_node, is_link, rows_of, node_rows, link_rows, node_named}
use Rattle.hyd_spec_input.specs.SectionsAndTables.{row_with}
use Rattle.hyd_spec_input.specs.SectionsAndTables.{own_id, curve_named}
use Rattle.hyd_spec_input.specs.FaultsWithOtherRows.{known_as, known_node}
use Rattle.hyd_theorems_on_input.proofs.RowsWithoutFault.{AreRight}
use Rattle.hyd_theorems_on_input.proofs.Names.{First, Second, Third, one_of_three, node_ids_are, own_ids, row_named}
use Rattle.hyd_theorems_on_input.proofs.Names.{link_new, named_stands}
use Rattle.hyd_theorems_on_input.proofs.OccurrencesOfNames.{itself, occurs, occurs_append, occurs_at, has_number}
use Rattle.hyd_theorems_on_input.proofs.OccurrencesOfNames.{kept_once}
use Rattle.hyd_theorems_on_input.proofs.ListsByPlace.{kept_stands, kept_passes}
use Rattle.hyd_rows_and_tables.specs.RowsOfLines.{rows_at}
use Rattle.hyd_rows_and_tables.specs.IdTables.{AreFirsts}
use Rattle.hyd_build_links_controls_and_rules.specs.RowsToBuildLinksFrom.{HasNumber}

-- a name that occurs has a number
pub numbered : (names : List (List ℕ)) (name : List ℕ) → 1 ≤ occurs name names → HasNumber names name
numbered names name some = by (number_in names name) refl
  where
    by : (o : Option ℕ) → number_in names name ≡ o → HasNumber names name
    by None e = absurd (has_number name names some e)
    by (Some n) e = record { number = n; is = e }

-- ---- nodes

occurs_kept : (p : Row → Bool) (rows : List Row) (k : ℕ) (row : Row) → slice_get rows k ≡ Some row → p row ≡ true
    → 1 ≤ occurs (own_id row) (own_ids (filter p rows))
occurs_kept p [] k row e t = absurd (let x : ⊥ = cc in x)
occurs_kept p (x ∷ rows) zero row e t =
    let same : x ≡ row = cc in rw (same, t) (rw (itself (own_id row)) (omega arith))
occurs_kept p (x ∷ rows) (suc k) row e t = elim (cases_Bool (p x)) [
  | inl h ↦ rw h (omega (arith, occurs_kept p rows k row e t))
  | inr f ↦ rw f (occurs_kept p rows k row e t)
]

occurs_three : (name : List ℕ) (a b c : List Row) → occurs name (own_ids (a ++ b ++ c))
    ≡ occurs name (own_ids a) + occurs name (own_ids b) + occurs name (own_ids c)
occurs_three name a b c =
    ap (occurs name) (map-append own_id (a ++ b) c) ∙ occurs_append name (own_ids (a ++ b)) (own_ids c)
    ∙ ap (λ n. n + occurs name (own_ids c))
    (ap (occurs name) (map-append own_id a b) ∙ occurs_append name (own_ids a) (own_ids b))

node_occurs : (rows : List Row) (k : ℕ) (row : Row) → slice_get rows k ≡ Some row → is_node row ≡ true
    → 1 ≤ occurs (own_id row) (node_ids rows)
node_occurs rows k row is node =
    let all : occurs (own_id row) (node_ids rows)
    ≡ occurs (own_id row) (own_ids (rows_of Junctions rows)) + occurs (own_id row) (own_ids (rows_of Reservoirs rows))
    + occurs (own_id row) (own_ids (rows_of Tanks rows)) =
    ap (occurs (own_id row)) (node_ids_are rows)
    ∙ occurs_three (own_id row) (rows_of Junctions rows) (rows_of Reservoirs rows) (rows_of Tanks rows) in
    rw all (elim (one_of_three (is_of Junctions row) (is_of Reservoirs row) (is_of Tanks row) node) [
      | First of ↦ omega (arith, occurs_kept (is_of Junctions) rows k row is of)
      | Second of ↦ omega (arith, occurs_kept (is_of Reservoirs) rows k row is of)
      | Third of ↦ omega (arith, occurs_kept (is_of Tanks) rows k row is of)
    ])

-- a node that is known has a number
pub node_numbered : (rows : List Row) (name : List ℕ) → known_node rows name ≡ None → HasNumber (node_ids rows) name
node_numbered rows name known = by (node_named rows name) refl known
  where
    by : (o : Option Row) → node_named rows name ≡ o → known_as (λ row. true) o ≡ None → HasNumber (node_ids rows) name
    by None e none = absurd (let x : ⊥ = cc in x)
    by (Some row) e none =
        let found = named_stands name (node_rows rows) row e in
        let stands = kept_stands is_node rows found.0.place row found.0.is in
        let node = kept_passes is_node rows found.0.place row found.0.is in
        rw found.1 (numbered (node_ids rows) (own_id row) (node_occurs rows stands.place row stands.is node))

-- ---- links

-- the row of a name that is in a table has a number there
table_numbered : (text : List ℕ) (rows : List Row) (names : List (List ℕ)) (firsts : List Line) (name : List ℕ)
    (row : Row) → AreFirsts text rows names firsts → row_with name rows ≡ Some row → HasNumber names name
table_numbered text rows names firsts name row table e =
    let found = named_stands name (rows_at text firsts) row (table.same name ∙ e) in
    let at : slice_get (map own_id (rows_at text firsts)) found.0.place ≡ Some (own_id row) =
    slice_get-map own_id (rows_at text firsts) found.0.place ∙ ap (option_map own_id) found.0.is in
    rw table.aligned (numbered (map own_id (rows_at text firsts)) name
    (occurs_at name (map own_id (rows_at text firsts)) found.0.place (at ∙ ap Some (sym found.1))))

pub link_numbered : (text : List ℕ) (rows : List Row) (names : List (List ℕ)) (firsts : List Line) (k : ℕ) (row : Row)
    → AreRight rows → AreFirsts text (link_rows rows) names firsts → slice_get rows k ≡ Some row
    → is_link row ≡ true → HasNumber names (own_id row)
link_numbered text rows names firsts k row right table is link =
    table_numbered text (link_rows rows) names firsts (own_id row) row table
    (row_named is_link rows k row (link_new rows right) is link)

-- ---- curves by straight lines

among_left : (name : List ℕ) (xs ys : List (List ℕ)) → is_among name xs ≡ true → is_among name (xs ++ ys) ≡ true
among_left name [] ys t = absurd (true≢false (sym t))
among_left name (x ∷ xs) ys t = elim (cases_Bool (bytes_eq name x)) [
  | inl h ↦ rw h refl
  | inr f ↦ rw f (among_left name xs ys (rw f at t))
]

among_right : (name : List ℕ) (xs ys : List (List ℕ)) → is_among name ys ≡ true → is_among name (xs ++ ys) ≡ true
among_right name [] ys t = t
among_right name (x ∷ xs) ys t = or_right (bytes_eq name x) (is_among name (xs ++ ys)) (among_right name xs ys t)

among_kept : (name : List ℕ) (p : Row → Bool) (f : Row → List (List ℕ)) (rows : List Row) (k : ℕ) (row : Row)
    → slice_get rows k ≡ Some row → p row ≡ true → is_among name (f row) ≡ true
    → is_among name (flat_map f (filter p rows)) ≡ true
among_kept name p f [] k row e t a = absurd (let x : ⊥ = cc in x)
among_kept name p f (x ∷ rows) zero row e t a =
    let same : x ≡ row = cc in rw (same, t) (among_left name (f row) (flat_map f (filter p rows)) a)
among_kept name p f (x ∷ rows) (suc k) row e t a = elim (cases_Bool (p x)) [
  | inl h ↦ rw h (among_right name (f x) (flat_map f (filter p rows)) (among_kept name p f rows k row e t a))
  | inr n ↦ rw n (among_kept name p f rows k row e t a)
]

itself_among : (name : List ℕ) → is_among name (name ∷ []) ≡ true
itself_among name = or_left (bytes_eq name name) false (itself name)

-- the curve of a pump
pub pump_bend : (rows : List Row) (k : ℕ) (row : Row) (name : List ℕ) → slice_get rows k ≡ Some row
    → is_of Pumps row ≡ true → pump_curve row.words ≡ Some name → is_bent (curve_named rows name) ≡ true
    → HasNumber (bend_names rows) name
pump_bend rows k row name is of curve bent =
    let own : is_among name (bent_name rows row) ≡ true = rw (curve, bent) (itself_among name) in
    numbered (bend_names rows) name (kept_once name [] _
    (among_left name (flat_map (bent_name rows) (rows_of Pumps rows))
    (flat_map (λ (row : Row). as_list (valve_curve row.words)) (rows_of Valves rows))
    (among_kept name (is_of Pumps) (bent_name rows) rows k row is of own)) refl)

-- the curve of a general purpose valve
pub valve_bend : (rows : List Row) (k : ℕ) (row : Row) (name : List ℕ) → slice_get rows k ≡ Some row
    → is_of Valves row ≡ true → valve_curve row.words ≡ Some name → HasNumber (bend_names rows) name
valve_bend rows k row name is of curve =
    let own : is_among name (as_list (valve_curve row.words)) ≡ true = rw curve (itself_among name) in
    numbered (bend_names rows) name (kept_once name [] _
    (among_right name (flat_map (bent_name rows) (rows_of Pumps rows))
    (flat_map (λ (row : Row). as_list (valve_curve row.words)) (rows_of Valves rows))
    (among_kept name (is_of Valves) (λ (row : Row). as_list (valve_curve row.words)) rows k row is of own)) refl)
