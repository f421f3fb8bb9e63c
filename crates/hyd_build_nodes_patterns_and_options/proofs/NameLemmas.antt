-- New names, one name more, and names that occur once.
use Rattle.std.proofs.Common.{◌≡◌, ◌+◌, ◌≤◌, ℕ, Bool, true, false, ◌||◌, List, [], ◌∷◌, ◌++◌, map, length, take}
use Rattle.std.proofs.Common.{slice_get, Some, Contains, refl, sym, ap, ◌∙◌, subst, arith, inl, inr, true≢false}
use Rattle.std.proofs.Common.{append_assoc}
use Rattle.std.specs.Prelude.{◌↔◌, if◌then◌else◌}
use Rattle.std.specs.Str.{bytes_eq}
use Rattle.std.specs.Cmp.Lexicographic.{bytes_decides, nat_list_eq_equiv}
use Rattle.std.proofs.lemmas.Bool.{cases_Bool}
use Rattle.std.proofs.lemmas.List.{map-append, length-append}
use Rattle.std.proofs.lemmas.Map.Views.{Contains-from_any, list_any-from_Contains}
use Rattle.hyd_spec_lines.specs.Lines.{Row}
use Rattle.hyd_spec_lines.specs.declared.section.Section.{Section}
use Rattle.hyd_spec_lines.specs.declared.section.Section.TheVariants.{Junctions, Reservoirs, Tanks, Pipes, Pumps}
use Rattle.hyd_spec_lines.specs.declared.section.Section.TheVariants.{Valves}
use Rattle.hyd_spec_input.specs.MeaningsAcrossRows.{is_among, new_names, node_ids, tank_ids, link_ids}
use Rattle.hyd_spec_input.specs.SectionsAndTables.{is_of, rows_of, own_id}
use Rattle.hyd_rows_and_tables.proofs.FirstWrongRowLemmas.{filter_more, filter_same}
use Rattle.hyd_theorems_on_input.proofs.OccurrencesOfNames.{itself, when, occurs, occurs_append, Once}
use Rattle.hyd_theorems_on_input.proofs.RowsWithoutFault.{AreRight}
use Rattle.hyd_theorems_on_input.proofs.Names.{own_ids, node_ids_are, link_ids_are, tank_ids_are, nodes_once, among_is}
use Rattle.hyd_theorems_on_input.proofs.Names.{links_once, and_name, one_more}

-- ---- one name more

both_in_turn : (a b c : Bool) → (a || (b || c)) ≡ ((a || b) || c)
both_in_turn true b c = refl
both_in_turn false b c = refl

among_both : (name : List ℕ) (xs ys : List (List ℕ)) → is_among name (xs ++ ys) ≡ (is_among name xs || is_among name ys)
among_both name [] ys = refl
among_both name (x ∷ xs) ys = ap (λ b. bytes_eq name x || b) (among_both name xs ys)
    ∙ both_in_turn (bytes_eq name x) (is_among name xs) (is_among name ys)

-- what an added name tells
new_or_old : (name : List ℕ) (ids : List (List ℕ)) (added : Bool) → ((added ≡ false) ↔ Contains ids name)
    → (b : Bool) → is_among name ids ≡ b → (if added then ids ++ name ∷ [] else ids) ≡ and_name b ids name
new_or_old name ids added present true e =
    let old : added ≡ false = present.1 (Contains-from_any (λ x y h. (bytes_decides x y).0 h) name ids (sym
    (among_is name ids) ∙ e)) in
    rw old refl
new_or_old name ids true present false e = refl
new_or_old name ids false present false e =
    absurd (true≢false (sym (list_any-from_Contains nat_list_eq_equiv name ids (present.0 refl))
    ∙ sym (among_is name ids) ∙ e))

with_append : (b : Bool) (before names : List (List ℕ)) (name : List ℕ)
    → and_name b (before ++ names) name ≡ before ++ and_name b names name
with_append true before names name = refl
with_append false before names name = append_assoc before names (name ∷ [])

-- the names after one name more
added_more : (name : List ℕ) (before names ids after : List (List ℕ)) (added : Bool)
    → ((added ≡ false) ↔ Contains ids name) → ids ≡ before ++ new_names before names
    → after ≡ (if added then ids ++ name ∷ [] else ids) → after ≡ before ++ new_names before (names ++ name ∷ [])
added_more name before names ids after added present is e =
    let b : Bool = is_among name before || is_among name (new_names before names) in
    let there : is_among name ids ≡ b = ap (is_among name) is ∙ among_both name before (new_names before names) in
    e ∙ new_or_old name ids added present b there ∙ ap (λ xs. and_name b xs name) is
    ∙ with_append b before (new_names before names) name ∙ sym (ap (λ xs. before ++ xs) (one_more name before names))

-- ---- the IDs of a section, one row further

pub section_more : (section : Section) (rows : List Row) (k : ℕ) (row : Row) (before ids after : List (List ℕ))
    (added : Bool)
    → slice_get rows k ≡ Some row → is_of section row ≡ true
    → ((added ≡ false) ↔ Contains ids (own_id row)) → ids ≡ before
    ++ new_names before (map own_id (rows_of section (take k rows)))
    → after ≡ (if added then ids ++ own_id row ∷ [] else ids)
    → after ≡ before ++ new_names before (map own_id (rows_of section (take (k + 1) rows)))
section_more section rows k row before ids after added at member present is e =
    added_more (own_id row) before (map own_id (rows_of section (take k rows))) ids after added present is e
    ∙ ap (λ names. before ++ new_names before names)
    (sym (ap (map own_id) (filter_more (is_of section) rows k row at member)
    ∙ map-append own_id (rows_of section (take k rows)) (row ∷ [])))

pub section_same : (section : Section) (rows : List Row) (k : ℕ) (row : Row) (before ids : List (List ℕ))
    → slice_get rows k ≡ Some row → is_of section row ≡ false
    → ids ≡ before ++ new_names before (map own_id (rows_of section (take k rows)))
    → ids ≡ before ++ new_names before (map own_id (rows_of section (take (k + 1) rows)))
section_same section rows k row before ids at other is =
    is ∙ ap (λ rs. before ++ new_names before (map own_id rs)) (sym (filter_same (is_of section) rows k row at other))

-- ---- names that occur once

among_occurs : (name : List ℕ) (ids : List (List ℕ)) → is_among name ids ≡ true → 1 ≤ occurs name ids
among_occurs name [] e = absurd (true≢false (sym e))
among_occurs name (id ∷ ids) e = elim (cases_Bool (bytes_eq name id)) [
  | inl t ↦ rw t (omega arith)
  | inr f ↦ (let there : is_among name ids ≡ true = rw f at e in rw f (omega (arith, among_occurs name ids there)))
]

-- names of which none was seen, and none occurs twice
record AreFresh (seen ids : List (List ℕ)) : Type 0 where
  once : Once ids
  unseen : (name : List ℕ) → is_among name seen ≡ true → occurs name ids ≤ 0

fresh_rest : (seen : List (List ℕ)) (id : List ℕ) (ids : List (List ℕ)) → AreFresh seen (id ∷ ids)
    → AreFresh (id ∷ seen) ids
fresh_rest seen id ids fresh = record {
  once = λ name. omega (arith, fresh.once name);
  unseen = λ name e. elim (cases_Bool (bytes_eq name id)) [
    | inl t ↦ (let one : when (bytes_eq name id) 1 ≡ 1 = rw t refl in omega (arith, one, fresh.once name))
    | inr f ↦ (let there : is_among name seen ≡ true = rw f at e in omega (arith, fresh.unseen name there))
  ];
}

first_unseen : (seen : List (List ℕ)) (id : List ℕ) (ids : List (List ℕ)) → AreFresh seen (id ∷ ids)
    → is_among id seen ≡ false
first_unseen seen id ids fresh = elim (cases_Bool (is_among id seen)) [
  | inl t ↦ (let one : when (bytes_eq id id) 1 ≡ 1 = rw (itself id) refl in absurd (omega
      (arith, one, fresh.unseen id t)))
  | inr f ↦ f
]

all_new : (seen ids : List (List ℕ)) → AreFresh seen ids → new_names seen ids ≡ ids
all_new seen [] fresh = refl
all_new seen (id ∷ ids) fresh = rw (first_unseen seen id ids fresh)
    (ap (λ more. id ∷ more) (all_new (id ∷ seen) ids (fresh_rest seen id ids fresh)))

-- names that are all new, where they occur once with those before
pub joined : (before ids : List (List ℕ)) → Once (before ++ ids) → before ++ new_names before ids ≡ before ++ ids
joined before ids once = ap (λ xs. before ++ xs) (all_new before ids (record {
  once = λ name. omega (arith, once name, occurs_append name before ids);
  unseen = λ name e. omega (arith, once name, occurs_append name before ids, among_occurs name before e);
}))

-- the first of names that occur once
pub once_front : (xs ys : List (List ℕ)) → Once (xs ++ ys) → Once xs
once_front xs ys once name = omega (arith, once name, occurs_append name xs ys)

pub once_back : (xs ys : List (List ℕ)) → Once (xs ++ ys) → Once ys
once_back xs ys once name = omega (arith, once name, occurs_append name xs ys)

-- three tables of names, one after another
three_joined : (xs ys zs none a b c : List (List ℕ)) → Once (xs ++ ys ++ zs) → none ≡ []
    → a ≡ none ++ new_names none xs → b ≡ a ++ new_names a ys → c ≡ b ++ new_names b zs → c ≡ xs ++ ys ++ zs
three_joined xs ys zs none a b c once empty first second third =
    let two : Once (xs ++ ys) = once_front (xs ++ ys) zs once in
    let e : a ≡ xs = first ∙ ap (λ l. l ++ new_names l xs) empty ∙ joined [] xs (once_front xs ys two) in
    let f : b ≡ xs ++ ys = second ∙ ap (λ l. l ++ new_names l ys) e ∙ joined xs ys two in
    third ∙ ap (λ l. l ++ new_names l zs) f ∙ joined (xs ++ ys) zs once

ids_parted : (xs ys zs : List Row) → own_ids (xs ++ ys ++ zs) ≡ own_ids xs ++ own_ids ys ++ own_ids zs
ids_parted xs ys zs = map-append own_id (xs ++ ys) zs ∙ ap (λ l. l ++ own_ids zs) (map-append own_id xs ys)

-- ---- the IDs of nodes and links

pub are_node_ids : (rows : List Row) (none a b c : List (List ℕ)) → AreRight rows → none ≡ []
    → a ≡ none ++ new_names none (own_ids (rows_of Junctions rows))
    → b ≡ a ++ new_names a (own_ids (rows_of Reservoirs rows))
    → c ≡ b ++ new_names b (own_ids (rows_of Tanks rows)) → c ≡ node_ids rows
are_node_ids rows none a b c right empty first second third =
    let is : node_ids rows
    ≡ own_ids (rows_of Junctions rows) ++ own_ids (rows_of Reservoirs rows) ++ own_ids (rows_of Tanks rows) =
    node_ids_are rows ∙ ids_parted (rows_of Junctions rows) (rows_of Reservoirs rows) (rows_of Tanks rows) in
    three_joined (own_ids (rows_of Junctions rows)) (own_ids (rows_of Reservoirs rows)) (own_ids (rows_of Tanks rows))
    none a b c (subst Once is (nodes_once rows right)) empty first second third ∙ sym is

pub are_link_ids : (rows : List Row) (none a b c : List (List ℕ)) → AreRight rows → none ≡ []
    → a ≡ none ++ new_names none (own_ids (rows_of Pipes rows))
    → b ≡ a ++ new_names a (own_ids (rows_of Pumps rows))
    → c ≡ b ++ new_names b (own_ids (rows_of Valves rows)) → c ≡ link_ids rows
are_link_ids rows none a b c right empty first second third =
    let is : link_ids rows
    ≡ own_ids (rows_of Pipes rows) ++ own_ids (rows_of Pumps rows) ++ own_ids (rows_of Valves rows) =
    link_ids_are rows ∙ ids_parted (rows_of Pipes rows) (rows_of Pumps rows) (rows_of Valves rows) in
    three_joined (own_ids (rows_of Pipes rows)) (own_ids (rows_of Pumps rows)) (own_ids (rows_of Valves rows))
    none a b c (subst Once is (links_once rows right)) empty first second third ∙ sym is

-- tanks come last among nodes
pub are_tank_ids : (rows : List Row) (none a : List (List ℕ)) → AreRight rows → none ≡ []
    → a ≡ none ++ new_names none (own_ids (rows_of Tanks rows)) → a ≡ tank_ids rows
are_tank_ids rows none a right empty first =
    let is : node_ids rows
    ≡ own_ids (rows_of Junctions rows) ++ own_ids (rows_of Reservoirs rows) ++ own_ids (rows_of Tanks rows) =
    node_ids_are rows ∙ ids_parted (rows_of Junctions rows) (rows_of Reservoirs rows) (rows_of Tanks rows) in
    first ∙ ap (λ l. l ++ new_names l (own_ids (rows_of Tanks rows))) empty
    ∙ joined [] (own_ids (rows_of Tanks rows)) (once_back
    (own_ids (rows_of Junctions rows) ++ own_ids (rows_of Reservoirs rows)) (own_ids (rows_of Tanks rows))
    (subst Once is (nodes_once rows right))) ∙ sym (tank_ids_are rows)

-- a table is longer by one at most
pub one_longer : (name : List ℕ) (ids after : List (List ℕ)) (added : Bool)
    → after ≡ (if added then ids ++ name ∷ [] else ids) → length after ≤ length ids + 1
one_longer name ids after true e = rw e (omega (arith, length-append ids (name ∷ [])))
one_longer name ids after false e = rw e (omega arith)
