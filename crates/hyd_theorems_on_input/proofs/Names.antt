-- The IDs of nodes and links: the row of a name, names that occur once.
use Rattle.std.proofs.Common.{◌≡◌, ℕ, ◌+◌, ◌≤◌, zero, suc, Bool, true, false, List, [], ◌∷◌, ◌++◌, map, length, take}
use Rattle.std.proofs.Common.{drop, Some, None, refl, sym, ap, ◌∙◌, subst, arith, inl, inr, true≢false}
use Rattle.std.specs.Prelude.{slice_get, filter, ◌||◌, ◌==◌, All, if◌then◌else◌}
use Rattle.std.specs.List.{list_any}
use Rattle.std.specs.Str.{bytes_eq}
use Rattle.std.proofs.lemmas.Bool.{cases_Bool, or_parts, or_left, or_right, not-true, leb-true}
use Rattle.std.proofs.lemmas.List.{map-append, length-append, length-map, take_all}
use Rattle.std.proofs.lemmas.List.Elements.{filter-append}
use Rattle.hyd_spec_lines.specs.Lines.{Row}
use Rattle.hyd_spec_lines.specs.declared.section.Section.{Section}
use Rattle.hyd_spec_lines.specs.declared.section.Section.TheVariants.{Junctions, Reservoirs, Tanks, Pipes, Pumps}
use Rattle.hyd_spec_lines.specs.declared.section.Section.TheVariants.{Valves}
use Rattle.hyd_net.specs.Ids.{IsId, AreDistinct}
use Rattle.hyd_net.specs.Sound.{HasIds}
use Rattle.hyd_net.specs.ControlsAndRules.{node_count}
use Rattle.hyd_net.specs.declared.project.Project.{Project}
use Rattle.hyd_spec_input.specs.Columns.{needed, id}
use Rattle.hyd_spec_input.specs.NodeAndLinkRows as alone
use Rattle.hyd_spec_input.specs.SectionsAndTables.{is_of, rows_of, words_of_row, own_id, is_node, is_link, node_rows}
use Rattle.hyd_spec_input.specs.SectionsAndTables.{link_rows}
use Rattle.hyd_spec_input.specs.SectionsAndTables.{row_with, has_id, place}
use Rattle.hyd_spec_input.specs.MeaningsAcrossRows.{first_word, node_ids, tank_ids, link_ids, is_among, new_names}
use Rattle.hyd_spec_input.specs.FaultsWithOtherRows as others
use Rattle.hyd_spec_input.specs.FaultsWithOtherRows.{passes, new_in}
use Rattle.hyd_spec_input.specs.Project.{IsProject, IsJunction, IsReservoir, IsTank, IsLink, numbered_links}
use Rattle.hyd_theorems_on_input.proofs.ListsByPlace.{all_from, all_at, Stands, item_at, kept_stands, kept_passes}
use Rattle.hyd_theorems_on_input.proofs.ListsByPlace.{of_either}
use Rattle.hyd_theorems_on_input.proofs.ListsByPlace.{kept_more, kept_same, split_at, match_length, source}
use Rattle.hyd_theorems_on_input.proofs.RowsWithoutFault.{AreRight, right_alone, right_among, or_none, all_none}
use Rattle.hyd_theorems_on_input.proofs.RowsWithoutFault.{unless_none}
use Rattle.hyd_theorems_on_input.proofs.RowsWithoutFault.{needed_none}
use Rattle.hyd_theorems_on_input.proofs.OccurrencesOfNames.{same_name, itself, when, occurs, Once, occurs_append}
use Rattle.hyd_theorems_on_input.proofs.OccurrencesOfNames.{distinct}
use Rattle.hyd_lemmas.proofs.BooleanTests.{or-turned}

-- ---- one row of a name

-- no earlier row of a table has the ID of a later one
pub record AreNew (p : Row → Bool) (rows : List Row) : Type 0 where
  pub new : (k : ℕ) (row : Row) → slice_get rows k ≡ Some row → p row ≡ true
      → has_id (own_id row) (filter p (take k rows)) ≡ false

pub row_behind : (name : List ℕ) (xs ys : List Row) (row : Row) → has_id name xs ≡ false
    → bytes_eq name (own_id row) ≡ true
    → row_with name (xs ++ row ∷ ys) ≡ Some row
row_behind name [] ys row none same = rw same refl
row_behind name (x ∷ xs) ys row none same =
    let both = or_parts (bytes_eq name (own_id x)) (has_id name xs) none in
    rw both.0 (row_behind name xs ys row both.1 same)

-- a row is the one of its name
pub row_named : (p : Row → Bool) (rows : List Row) (k : ℕ) (row : Row) → AreNew p rows → slice_get rows k ≡ Some row
    → p row ≡ true
    → row_with (own_id row) (filter p rows) ≡ Some row
row_named p rows k row new is passes =
    ap (λ rs. row_with (own_id row) (filter p rs)) (split_at rows k row is)
    ∙ ap (row_with (own_id row)) (filter-append p (take k rows) (row ∷ drop (suc k) rows) ∙ rw passes refl)
    ∙ row_behind (own_id row) (filter p (take k rows)) (filter p (drop (suc k) rows)) row (new.new k row is passes)
    (itself (own_id row))

-- the row of a name stands in the table, and has the name
pub named_stands : (name : List ℕ) (xs : List Row) (row : Row) → row_with name xs ≡ Some row
    → Stands xs row × (name ≡ own_id row)
named_stands name [] row e = absurd (let x : ⊥ = cc in x)
named_stands name (x ∷ xs) row e = elim (cases_Bool (bytes_eq name (own_id x))) [
  | inl t ↦ (let f : Some x ≡ Some row = rw t at e in let same : x ≡ row = cc in
      (record { place = 0; is = f }, same_name name (own_id x) t ∙ ap own_id same))
  | inr f ↦ (let rest = named_stands name xs row (rw f at e) in
      (record { place = suc rest.0.place; is = rest.0.is }, rest.1))
]

-- ---- names of a table occur once

abbrev pub own_ids : List Row → List (List ℕ)
own_ids rows = map own_id rows

absent : (name : List ℕ) (xs : List Row) → has_id name xs ≡ false → occurs name (own_ids xs) ≡ 0
absent name [] e = refl
absent name (x ∷ xs) e = let both = or_parts (bytes_eq name (own_id x)) (has_id name xs) e in
    rw both.0 (omega (arith, absent name xs both.1))

pushed : (name : List ℕ) (xs : List Row) (row : Row) → occurs name (own_ids (xs ++ row ∷ [])) ≡ occurs name
    (own_ids xs) + when (bytes_eq name (own_id row)) 1
pushed name xs row = ap (occurs name) (map-append own_id xs (row ∷ [])) ∙ occurs_append name (own_ids xs)
    (own_id row ∷ []) ∙ omega arith

once_taken : (p : Row → Bool) (rows : List Row) → AreNew p rows → (k : ℕ) → k ≤ length rows
    → Once (own_ids (filter p (take k rows)))
once_taken p rows new zero l name = omega arith
once_taken p rows new (suc k) l name =
    let found = item_at rows k (omega (arith, l)) in
    let before = once_taken p rows new k (omega (arith, l)) name in
    let next : suc k ≡ k + 1 = omega arith in
    let more : take (suc k) rows ≡ take (k + 1) rows = ap (λ n. take n rows) next in
    rw more (elim (cases_Bool (p found.item)) [
      | inl t ↦ rw (kept_more p rows k found.item found.is t) (rw (pushed name (filter p (take k rows)) found.item)
          (here found.item (new.new k found.item found.is t) (bytes_eq name (own_id found.item)) refl before))
      | inr f ↦ rw (kept_same p rows k found.item found.is f) before
    ])
  where
    here : (row : Row) → has_id (own_id row) (filter p (take k rows)) ≡ false → (b : Bool)
        → bytes_eq name (own_id row) ≡ b
        → occurs name (own_ids (filter p (take k rows))) ≤ 1
        → occurs name (own_ids (filter p (take k rows))) + when (bytes_eq name (own_id row)) 1 ≤ 1
    here row none true e few =
        let same : own_id row ≡ name = sym (same_name name (own_id row) e) in
        let zero : occurs name (own_ids (filter p (take k rows))) ≡ 0 =
        absent name (filter p (take k rows)) (rw same at none) in
        rw e (omega (arith, zero))
    here row none false e few = rw e (omega (arith, few))

pub once_all : (p : Row → Bool) (rows : List Row) → AreNew p rows → Once (own_ids (filter p rows))
once_all p rows new name =
    let all : take (length rows) rows ≡ rows = take_all (length rows) rows (omega arith) in
    subst (λ rs. occurs name (own_ids (filter p rs)) ≤ 1) all (once_taken p rows new (length rows) (omega arith) name)

-- rows that pass a test are those that pass one of three others
parted : (name : List ℕ) (p f g h : Row → Bool) (rows : List Row)
    → ((row : Row) (n : ℕ) → when (p row) n ≡ when (f row) n + (when (g row) n + when (h row) n))
    → occurs name (own_ids (filter p rows)) ≡ occurs name (own_ids (filter f rows))
    + (occurs name (own_ids (filter g rows)) + occurs name (own_ids (filter h rows)))
parted name p f g h [] one = omega arith
parted name p f g h (row ∷ rows) one =
    let rest = parted name p f g h rows one in
    let e = one row (when (bytes_eq name (own_id row)) 1) in
    omega (arith, rest, e, kept_count p, kept_count f, kept_count g, kept_count h)
  where
    kept_count : (q : Row → Bool) → occurs name (own_ids (filter q (row ∷ rows))) ≡ when (q row)
        (when (bytes_eq name (own_id row)) 1) + occurs name (own_ids (filter q rows))
    kept_count q = elim (cases_Bool (q row)) [ inl t ↦ rw t refl | inr f ↦ rw f (omega arith) ]

of_three : (name : List ℕ) (p f g h : Row → Bool) (rows : List Row) → AreNew p rows
    → ((row : Row) (n : ℕ) → when (p row) n ≡ when (f row) n + (when (g row) n + when (h row) n))
    → occurs name (own_ids (filter f rows ++ filter g rows ++ filter h rows)) ≤ 1
of_three name p f g h rows new one =
    let whole = once_all p rows new name in
    let parts = parted name p f g h rows one in
    let a = ap (occurs name) (map-append own_id (filter f rows ++ filter g rows) (filter h rows)) in
    let b = ap (occurs name) (map-append own_id (filter f rows) (filter g rows)) in
    let c = occurs_append name (own_ids (filter f rows ++ filter g rows)) (own_ids (filter h rows)) in
    let d = occurs_append name (own_ids (filter f rows)) (own_ids (filter g rows)) in
    omega (arith, whole, parts, a, b, c, d)

node_part : (s : Section) (n : ℕ) → when ((place s == 0) || ((place s == 1) || (place s == 2))) n ≡ when
    (place s == 0) n + (when (place s == 1) n + when (place s == 2) n)
node_part Junctions n = omega arith
node_part Reservoirs n = omega arith
node_part Tanks n = omega arith
node_part _ n = refl

pub link_part : (s : Section) (n : ℕ) → when ((place s == 3) || ((place s == 4) || (place s == 5))) n ≡ when
    (place s == 3) n + (when (place s == 4) n + when (place s == 5) n)
link_part Pipes n = omega arith
link_part Pumps n = omega arith
link_part Valves n = omega arith
link_part _ n = refl

-- ---- nodes and links in the order of their numbers

abbrev pub numbered_nodes : List Row → List Row
numbered_nodes rows = rows_of Junctions rows ++ rows_of Reservoirs rows ++ rows_of Tanks rows

ids_of : (xs : List Row) → map first_word (map words_of_row xs) ≡ own_ids xs
ids_of [] = refl
ids_of (row ∷ rows) = ap (λ ids. own_id row ∷ ids) (ids_of rows)

ids_of_three : (xs ys zs : List Row) → map first_word
    (map words_of_row xs ++ map words_of_row ys ++ map words_of_row zs) ≡ own_ids (xs ++ ys ++ zs)
ids_of_three xs ys zs =
    ap (map first_word) (ap (λ l. l ++ map words_of_row zs) (sym (map-append words_of_row xs ys))
    ∙ sym (map-append words_of_row (xs ++ ys) zs))
    ∙ ids_of (xs ++ ys ++ zs)

pub node_ids_are : (rows : List Row) → node_ids rows ≡ own_ids (numbered_nodes rows)
node_ids_are rows = ids_of_three (rows_of Junctions rows) (rows_of Reservoirs rows) (rows_of Tanks rows)

pub link_ids_are : (rows : List Row) → link_ids rows ≡ own_ids (numbered_links rows)
link_ids_are rows = ids_of_three (rows_of Pipes rows) (rows_of Pumps rows) (rows_of Valves rows)

pub tank_ids_are : (rows : List Row) → tank_ids rows ≡ own_ids (rows_of Tanks rows)
tank_ids_are rows = ids_of (rows_of Tanks rows)

-- ---- what no fault says of IDs

-- the first word of a row is an ID
pub record HasId (row : Row) : Type 0 where
  pub there : 1 ≤ length (own_id row)
  pub short : length (own_id row) ≤ 31

id_of : (rows : List Row) (k : ℕ) (row : Row) → AreRight rows → slice_get rows k ≡ Some row
    → needed id 0 row.words ≡ None → HasId row
id_of rows k row right is e =
    let found = needed_none id 0 row.words e in
    record {
      there = all_at (λ w. 1 ≤ length w) row.words (right.not_empty k row is) 0 (own_id row) found.is;
      short = leb-true _ _ (unless_none _ _ found.right);
    }

-- an ID is no earlier one's, and there aren't too many
new_of : (earlier : List Row) (row : Row) → new_in earlier row ≡ None → has_id (own_id row) earlier ≡ false
new_of earlier row e = not-true (has_id (own_id row) earlier) (unless_none _ _ e)

-- which of three tables a row stands in
pub data OneOf (a b c : Bool) : Type 0 where
  First : a ≡ true → OneOf a b c
  Second : b ≡ true → OneOf a b c
  Third : c ≡ true → OneOf a b c

pub one_of_three : (a b c : Bool) → (a || (b || c)) ≡ true → OneOf a b c
one_of_three true b c e = First refl
one_of_three false true c e = Second refl
one_of_three false false true e = Third refl
one_of_three false false false e = absurd (true≢false (sym e))

pub node_new : (rows : List Row) → AreRight rows → AreNew is_node rows
node_new rows right = record {
  new = λ k row is node. elim (one_of_three (is_of Junctions row) (is_of Reservoirs row) (is_of Tanks row) node) [
    | First of ↦ new_of (node_rows (take k rows)) row
        (all_none (others.junction_faults rows k row) (right_among rows Junctions k row right is of)).1.0
    | Second of ↦ new_of (node_rows (take k rows)) row
        (all_none (others.reservoir_faults rows k row) (right_among rows Reservoirs k row right is of)).1.0
    | Third of ↦ new_of (node_rows (take k rows)) row
        (all_none (others.tank_faults rows k row) (right_among rows Tanks k row right is of)).1.0
  ];
}

-- what is asked of both ends of a link
pub ends_right : (rows : List Row) (k : ℕ) (row : Row) → AreRight rows → slice_get rows k ≡ Some row
    → is_link row ≡ true → others.ends rows k row ≡ None
ends_right rows k row right is link = elim (one_of_three (is_of Pipes row) (is_of Pumps row) (is_of Valves row) link) [
  | First of ↦ (or_none (others.ends rows k row) _ (right_among rows Pipes k row right is of)).0
  | Second of ↦ (all_none (others.pump_faults rows k row) (right_among rows Pumps k row right is of)).0
  | Third of ↦ (all_none (others.valve_faults rows k row) (right_among rows Valves k row right is of)).0
]

pub link_new : (rows : List Row) → AreRight rows → AreNew is_link rows
link_new rows right = record {
  new = λ k row is link.
      new_of (link_rows (take k rows)) row (all_none (others.ends_faults rows k row)
      (ends_right rows k row right is link)).1.0;
}

pub node_id : (rows : List Row) (k : ℕ) (row : Row) → AreRight rows → slice_get rows k ≡ Some row → is_node row ≡ true
    → HasId row
node_id rows k row right is node =
    elim (one_of_three (is_of Junctions row) (is_of Reservoirs row) (is_of Tanks row) node) [
      | First of ↦ id_of rows k row right is (or_none (needed id 0 row.words) _
          (right_alone rows Junctions k row right is of)).0
      | Second of ↦ id_of rows k row right is (or_none (needed id 0 row.words) _
          (right_alone rows Reservoirs k row right is of)).0
      | Third of ↦ id_of rows k row right is (or_none (needed id 0 row.words) _
          (right_alone rows Tanks k row right is of)).0
    ]

pub link_alone : (rows : List Row) (k : ℕ) (row : Row) → AreRight rows → slice_get rows k ≡ Some row
    → is_link row ≡ true → alone.link_ends row.words ≡ None
link_alone rows k row right is link = elim (one_of_three (is_of Pipes row) (is_of Pumps row) (is_of Valves row) link) [
  | First of ↦ (or_none (alone.link_ends row.words) _ (right_alone rows Pipes k row right is of)).0
  | Second of ↦ (or_none (alone.link_ends row.words) _ (right_alone rows Pumps k row right is of)).0
  | Third of ↦ (or_none (alone.link_ends row.words) _ (right_alone rows Valves k row right is of)).0
]

pub link_id : (rows : List Row) (k : ℕ) (row : Row) → AreRight rows → slice_get rows k ≡ Some row → is_link row ≡ true
    → HasId row
link_id rows k row right is link = id_of rows k row right is
    (or_none (needed id 0 row.words) _ (link_alone rows k row right is link)).0

-- ---- rows in the order of numbers

-- a row of a number stands in the file, and is a node
pub node_stands : (rows : List Row) (n : ℕ) (row : Row) → slice_get (numbered_nodes rows) n ≡ Some row
    → Stands rows row × (is_node row ≡ true)
node_stands rows n row e =
    elim (of_either (rows_of Junctions rows ++ rows_of Reservoirs rows) (rows_of Tanks rows) n row e) [
      | inl l ↦ elim (of_either (rows_of Junctions rows) (rows_of Reservoirs rows) n row l) [
        | inl j ↦ (
          kept_stands (is_of Junctions) rows n row j,
          or_left (is_of Junctions row) _
              (kept_passes (is_of Junctions) rows n row j),
        )
        | inr r ↦ (
          kept_stands (is_of Reservoirs) rows r.place row r.is,
          or_right (is_of Junctions row) _ (or_left (is_of Reservoirs row) _
              (kept_passes (is_of Reservoirs) rows r.place row r.is)),
        )
      ]
      | inr t ↦ (
        kept_stands (is_of Tanks) rows t.place row t.is,
        or_right (is_of Junctions row) _ (or_right (is_of Reservoirs row) _
            (kept_passes (is_of Tanks) rows t.place row t.is)),
      )
    ]

pub link_stands : (rows : List Row) (n : ℕ) (row : Row) → slice_get (numbered_links rows) n ≡ Some row
    → Stands rows row × (is_link row ≡ true)
link_stands rows n row e = elim (of_either (rows_of Pipes rows ++ rows_of Pumps rows) (rows_of Valves rows) n row e) [
  | inl l ↦ elim (of_either (rows_of Pipes rows) (rows_of Pumps rows) n row l) [
    | inl j ↦ (
      kept_stands (is_of Pipes) rows n row j,
      or_left (is_of Pipes row) _
          (kept_passes (is_of Pipes) rows n row j),
    )
    | inr r ↦ (
      kept_stands (is_of Pumps) rows r.place row r.is,
      or_right (is_of Pipes row) _ (or_left (is_of Pumps row) _ (kept_passes (is_of Pumps) rows r.place row r.is)),
    )
  ]
  | inr t ↦ (
    kept_stands (is_of Valves) rows t.place row t.is,
    or_right (is_of Pipes row) _ (or_right (is_of Pumps row) _ (kept_passes (is_of Valves) rows t.place row t.is)),
  )
]

-- ---- the IDs of the network

pub nodes_once : (rows : List Row) → AreRight rows → Once (node_ids rows)
nodes_once rows right name = subst (λ ids. occurs name ids ≤ 1) (sym (node_ids_are rows))
    (of_three name is_node (is_of Junctions) (is_of Reservoirs) (is_of Tanks) rows (node_new rows right)
    (λ row n. node_part row.section n))

pub links_once : (rows : List Row) → AreRight rows → Once (link_ids rows)
links_once rows right name = subst (λ ids. occurs name ids ≤ 1) (sym (link_ids_are rows))
    (of_three name is_link (is_of Pipes) (is_of Pumps) (is_of Valves) rows (link_new rows right)
    (λ row n. link_part row.section n))

is_id : (row : Row) (name : List ℕ) → HasId row → own_id row ≡ name → IsId name
is_id row name has same = subst IsId same (has.there, has.short)

node_ids_right : (rows : List Row) → AreRight rows → All IsId (node_ids rows)
node_ids_right rows right = subst (λ ids. All IsId ids) (sym (node_ids_are rows))
    (all_from IsId (own_ids (numbered_nodes rows)) (λ k name e.
    let found = source own_id (numbered_nodes rows) k name e in
    let node = node_stands rows k found.item found.is in
    is_id found.item name (node_id rows node.0.place found.item right node.0.is node.1) found.gives))

link_ids_right : (rows : List Row) → AreRight rows → All IsId (link_ids rows)
link_ids_right rows right = subst (λ ids. All IsId ids) (sym (link_ids_are rows))
    (all_from IsId (own_ids (numbered_links rows)) (λ k name e.
    let found = source own_id (numbered_links rows) k name e in
    let link = link_stands rows k found.item found.is in
    is_id found.item name (link_id rows link.0.place found.item right link.0.is link.1) found.gives))

pub node_length : (rows : List Row) (p : Project) → IsProject rows p → length (node_ids rows) ≡ node_count p
node_length rows p of =
    let j = match_length (IsJunction rows) _ _ of.junctions in
    let r = match_length (IsReservoir rows) _ _ of.reservoirs in
    let t = match_length (IsTank rows) _ _ of.tanks in
    let a = ap length (node_ids_are rows) ∙ length-map (numbered_nodes rows) own_id in
    let b = length-append (rows_of Junctions rows ++ rows_of Reservoirs rows) (rows_of Tanks rows) in
    let c = length-append (rows_of Junctions rows) (rows_of Reservoirs rows) in
    omega (arith, j, r, t, a, b, c)

pub link_length : (rows : List Row) (p : Project) → IsProject rows p → length (link_ids rows) ≡ length p.links.list
link_length rows p of = ap length (link_ids_are rows) ∙ length-map (numbered_links rows) own_id ∙ match_length
    (IsLink rows) _ _ of.links

pub has_ids : (rows : List Row) (p : Project) → AreRight rows → IsProject rows p → HasIds p
has_ids rows p right of = record {
  each_node = ap length of.node_ids_are ∙ node_length rows p of;
  each_link = ap length of.link_ids_are ∙ link_length rows p of;
  distinct_nodes = subst AreDistinct (sym of.node_ids_are) (distinct (node_ids rows) (nodes_once rows right));
  distinct_links = subst AreDistinct (sym of.link_ids_are) (distinct (link_ids rows) (links_once rows right));
  node_ids = subst (λ ids. All IsId ids) (sym of.node_ids_are) (node_ids_right rows right);
  link_ids = subst (λ ids. All IsId ids) (sym of.link_ids_are) (link_ids_right rows right);
}

-- a name among others
pub among_is : (name : List ℕ) (names : List (List ℕ)) → is_among name names ≡ list_any (bytes_eq name) names
among_is name [] = refl
among_is name (x ∷ names) = ap (λ (b : Bool). bytes_eq name x || b) (among_is name names)

-- a name that isn't there is appended
abbrev pub and_name : Bool → List (List ℕ) → List ℕ → List (List ℕ)
and_name there names name = if there then names else names ++ name ∷ []

cons_and : (there : Bool) (id name : List ℕ) (names : List (List ℕ))
    → id ∷ and_name there names name ≡ and_name there (id ∷ names) name
cons_and true id name names = refl
cons_and false id name names = refl

-- new names, one name more
pub one_more : (name : List ℕ) (seen names : List (List ℕ))
    → new_names seen (names ++ name ∷ []) ≡ and_name (is_among name seen || is_among name (new_names seen names))
    (new_names seen names) name
one_more name seen [] = elim (cases_Bool (is_among name seen)) [
  | inl t ↦ rw t refl
  | inr f ↦ rw f refl
]
one_more name seen (id ∷ ids) = elim (cases_Bool (is_among id seen)) [
  | inl t ↦ rw t (one_more name seen ids)
  | inr f ↦ rw f (ap (λ more. id ∷ more) (one_more name (id ∷ seen) ids)
      ∙ cons_and (is_among name (id ∷ seen) || is_among name (new_names (id ∷ seen) ids)) id name (new_names
      (id ∷ seen) ids)
      ∙ ap (λ b. and_name b (id ∷ new_names (id ∷ seen) ids) name)
      (or-turned (bytes_eq name id) (is_among name seen) (is_among name (new_names (id ∷ seen) ids))))
]
