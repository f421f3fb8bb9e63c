-- Names of a file without a fault have numbers.
use Rattle.std.proofs.Common.{◌≡◌, ℕ, zero, suc, Bool, true, List, [], ◌∷◌, ◌++◌, map, filter, slice_get, Some, None}
use Rattle.std.proofs.Common.{ap, ◌∙◌, inl, inr}
use Rattle.std.specs.Option.{option_map}
use Rattle.std.proofs.lemmas.Bool.{cases_Bool}
use Rattle.std.proofs.lemmas.Option.{slice_get-map}
use Rattle.hyd_spec_lines.specs.Lines.{Row}
use Rattle.hyd_spec_lines.specs.declared.section.Section.TheVariants.{Junctions, Reservoirs, Tanks, Pipes, Pumps}
use Rattle.hyd_spec_lines.specs.declared.section.Section.TheVariants.{Valves}
use Rattle.hyd_spec_input.specs.MeaningsAcrossRows.{node_ids, tank_ids, link_ids, number_in}
use Rattle.hyd_spec_input.specs.SectionsAndTables.{is_of, is_node, is_link, own_id, rows_of, node_rows, link_rows}
use Rattle.hyd_spec_input.specs.SectionsAndTables.{node_named}
use Rattle.hyd_spec_input.specs.SectionsAndTables.{link_named}
use Rattle.hyd_theorems_on_input.proofs.Names.{First, Second, Third, one_of_three, named_stands, node_ids_are}
use Rattle.hyd_theorems_on_input.proofs.Names.{link_ids_are}
use Rattle.hyd_theorems_on_input.proofs.Names.{tank_ids_are}
use Rattle.hyd_theorems_on_input.proofs.OccurrencesOfNames.{occurs_at, has_number}
use Rattle.hyd_theorems_on_input.proofs.ListsByPlace.{Stands, kept_stands, kept_passes}

-- ---- items that a filter keeps, and of two lists

kept_here : {X : Type 0} (p : X → Bool) (y : X) (xs : List X) (k : ℕ) (x : X) → Stands (filter p xs) x
    → Stands (filter p (y ∷ xs)) x
kept_here p y xs k x s = elim (cases_Bool (p y)) [
  | inl t ↦ record { place = suc s.place; is = rw t s.is }
  | inr f ↦ record { place = s.place; is = rw f s.is }
]

pub stands_kept : {X : Type 0} (p : X → Bool) (xs : List X) (k : ℕ) (x : X) → slice_get xs k ≡ Some x → p x ≡ true
    → Stands (filter p xs) x
stands_kept p [] k x e passes = absurd (let y : ⊥ = cc in y)
stands_kept p (y ∷ xs) zero x e passes =
    let same : y ≡ x = cc in
    let here : p y ≡ true = rw same passes in
    record { place = 0; is = rw here (ap Some same) }
stands_kept p (y ∷ xs) (suc k) x e passes = kept_here p y xs k x (stands_kept p xs k x e passes)

pub stands_left : {X : Type 0} (xs ys : List X) (k : ℕ) (x : X) → slice_get xs k ≡ Some x → Stands (xs ++ ys) x
stands_left [] ys k x e = absurd (let y : ⊥ = cc in y)
stands_left (z ∷ xs) ys zero x e = record { place = 0; is = e }
stands_left (z ∷ xs) ys (suc k) x e =
    let rest = stands_left xs ys k x e in record { place = suc rest.place; is = rest.is }

pub stands_right : {X : Type 0} (xs ys : List X) (k : ℕ) (x : X) → slice_get ys k ≡ Some x → Stands (xs ++ ys) x
stands_right [] ys k x e = record { place = k; is = e }
stands_right (z ∷ xs) ys k x e =
    let rest = stands_right xs ys k x e in record { place = suc rest.place; is = rest.is }

-- ---- numbers

numbered : (xs : List Row) (ids : List (List ℕ)) (name : List ℕ) (row : Row) → ids ≡ map own_id xs → name ≡ own_id row
    → Stands xs row → number_in ids name ≡ None → ⊥
numbered xs ids name row e n s none =
    let at : slice_get ids s.place ≡ Some name =
    rw (e, n) (slice_get-map own_id xs s.place ∙ ap (option_map own_id) s.is) in
    has_number name ids (occurs_at name ids s.place at) none

pub link_numbered : (rows : List Row) (name : List ℕ) (row : Row) → link_named rows name ≡ Some row
    → number_in (link_ids rows) name ≡ None → ⊥
link_numbered rows name row named =
    let found = named_stands name (link_rows rows) row named in
    let at = kept_stands is_link rows found.0.place row found.0.is in
    let link = kept_passes is_link rows found.0.place row found.0.is in
    let pipes = rows_of Pipes rows in
    let pumps = rows_of Pumps rows in
    let valves = rows_of Valves rows in
    let s : Stands (pipes ++ pumps ++ valves) row =
    elim (one_of_three (is_of Pipes row) (is_of Pumps row) (is_of Valves row) link) [
      | First of ↦ (let a = stands_kept (is_of Pipes) rows at.place row at.is of in
          let b = stands_left pipes pumps a.place row a.is in stands_left (pipes ++ pumps) valves b.place row b.is)
      | Second of ↦ (let a = stands_kept (is_of Pumps) rows at.place row at.is of in
          let b = stands_right pipes pumps a.place row a.is in stands_left (pipes ++ pumps) valves b.place row b.is)
      | Third of ↦ (let a = stands_kept (is_of Valves) rows at.place row at.is of in
          stands_right (pipes ++ pumps) valves a.place row a.is)
    ] in
    numbered (pipes ++ pumps ++ valves) (link_ids rows) name row (link_ids_are rows) found.1 s

pub node_numbered : (rows : List Row) (name : List ℕ) (row : Row) → node_named rows name ≡ Some row
    → number_in (node_ids rows) name ≡ None → ⊥
node_numbered rows name row named =
    let found = named_stands name (node_rows rows) row named in
    let at = kept_stands is_node rows found.0.place row found.0.is in
    let node = kept_passes is_node rows found.0.place row found.0.is in
    let junctions = rows_of Junctions rows in
    let reservoirs = rows_of Reservoirs rows in
    let tanks = rows_of Tanks rows in
    let s : Stands (junctions ++ reservoirs ++ tanks) row =
    elim (one_of_three (is_of Junctions row) (is_of Reservoirs row) (is_of Tanks row) node) [
      | First of ↦ (let a = stands_kept (is_of Junctions) rows at.place row at.is of in
          let b = stands_left junctions reservoirs a.place row a.is in
          stands_left (junctions ++ reservoirs) tanks b.place row b.is)
      | Second of ↦ (let a = stands_kept (is_of Reservoirs) rows at.place row at.is of in
          let b = stands_right junctions reservoirs a.place row a.is in
          stands_left (junctions ++ reservoirs) tanks b.place row b.is)
      | Third of ↦ (let a = stands_kept (is_of Tanks) rows at.place row at.is of in
          stands_right (junctions ++ reservoirs) tanks a.place row a.is)
    ] in
    numbered (junctions ++ reservoirs ++ tanks) (node_ids rows) name row (node_ids_are rows) found.1 s

pub tank_numbered : (rows : List Row) (name : List ℕ) (row : Row) → node_named rows name ≡ Some row
    → is_of Tanks row ≡ true → number_in (tank_ids rows) name ≡ None → ⊥
tank_numbered rows name row named of =
    let found = named_stands name (node_rows rows) row named in
    let at = kept_stands is_node rows found.0.place row found.0.is in
    numbered (rows_of Tanks rows) (tank_ids rows) name row (tank_ids_are rows) found.1
    (stands_kept (is_of Tanks) rows at.place row at.is of)
