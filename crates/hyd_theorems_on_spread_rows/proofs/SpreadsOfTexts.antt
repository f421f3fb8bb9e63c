-- The ends that a text without a fault gives are in range, and make a spread.
use Rattle.std.proofs.Common.{◌≡◌, ℕ, zero, suc, ◌+◌, ◌<◌, pos, refl, sym, ap, subst, ◌∙◌, arith, true}
use Rattle.std.proofs.Common.{false, List, [], ◌∷◌, length, map, inl, inr, get_or, All}
use Rattle.std.specs.Prelude.{Option, Some, None, slice_get, slice_index_or}
use Rattle.std.proofs.lemmas.Bool.{cases_eq, cases_lt}
use Rattle.std.proofs.lemmas.Int.{ints}
use Rattle.std.proofs.lemmas.Option.{slice_get_within, get_or_from_slice_get}
use Rattle.hyd_net.specs.Sound.{IsSound}
use Rattle.hyd_net.proofs.IdLemmas.{place_of_id}
use Rattle.hyd_spec.specs.ProgramTypes.{Project, Junction, Reservoir, Tank}
use Rattle.hyd_spec.specs.Lists.{map_from}
use Rattle.hyd_spec.specs.NodeNumbers.{junction_count, tank_node, tank_number}
use Rattle.hyd_spec_certificates.specs.Interval.{exactly}
use Rattle.hyd_spec_lines.specs.WordsOfLines.{text_lines}
use Rattle.hyd_spec_input.specs.Columns.{word, units}
use Rattle.hyd_spec_spread.specs.Spreads.{IsSpread, IsAroundOne, Holds, IsLevelInterval, one_alone}
use Rattle.hyd_spec_spread_rows.specs.declared.Subject.TheVariants.{Demand, Emitter, Head, Level}
use Rattle.hyd_spec_spread_rows.specs.declared.Ends.{Ends}
use Rattle.hyd_spec_spread_rows.specs.RowsOfSpreads.{is_all, is_known, is_of, node_named, tanks_meant, tank_at}
use Rattle.hyd_spec_spread_rows.specs.RowsOfSpreads.{some_tank}
use Rattle.hyd_spec_spread_rows.specs.TextsOfSpreads.{HasNoFault, spread_in, rows_of, row_for, ends_for, at_both}
use Rattle.hyd_spec_spread_rows.specs.TextsOfSpreads.{factors_from, interval_from, demand_ends, emitter_ends, head_ends}
use Rattle.hyd_spec_spread_rows.specs.RangesOfEnds.{AreFactors, AreOffsets}
use Rattle.hyd_theorems_on_definitions.proofs.SoundTankLemmas.{sound_tank}
use Rattle.hyd_theorems_on_input.proofs.OccurrencesOfNames.{same_name}
use Rattle.hyd_theorems_on_spread_rows.proofs.PickedRows.{Counts, counts, ends-case}
use Rattle.hyd_theorems_on_spread_rows.proofs.RightNumbers.{factors-right, offsets-right, levels-right, around-one}
use Rattle.hyd_theorems_on_spread_rows.proofs.RightNumbers.{around-zero}

-- ---- lists of ends

at-each : {X Y : Type 0} (P : Y → Type 0) (g : Ends → Y) (f : ℕ → X → Ends) (d : Y) (from : ℕ) (xs : List X) → P d
    → ((k : ℕ) (x : X) → P (g (f k x))) → (j : ℕ) → P (slice_index_or (map g (map_from f from xs)) j d)
at-each P g f d from [] here each j = here
at-each P g f d from (x ∷ xs) here each zero = each from x
at-each P g f d from (x ∷ xs) here each (suc j) = at-each P g f d (suc from) xs here each j

item-is : {X Y : Type 0} (g : Ends → Y) (f : ℕ → X → Ends) (d : Y) (from : ℕ) (xs : List X) (k : ℕ) (x : X)
    → slice_get xs k ≡ Some x → slice_index_or (map g (map_from f from xs)) k d ≡ g (f (from + k) x)
item-is g f d from [] k x at = absurd (cc)
item-is g f d from (y ∷ xs) zero x at =
    let same : y ≡ x = cc in
    let n : from ≡ from + 0 = omega arith in
    λ i. g (f (n i) (same i))
item-is g f d from (y ∷ xs) (suc k) x at =
    item-is g f d (suc from) xs k x at
    ∙ (let n : suc from + k ≡ from + suc k = omega arith in ap (λ m. g (f m x)) n)

all-each : {X : Type 0} (P : Ends → Type 0) (f : ℕ → X → Ends) (from : ℕ) (xs : List X)
    → ((k : ℕ) (x : X) → P (f k x)) → All P (map_from f from xs)
all-each P f from [] each k d lt = absurd (omega (arith, lt))
all-each P f from (x ∷ xs) each zero d lt = each from x
all-each P f from (x ∷ xs) each (suc k) d lt = all-each P f (suc from) xs each k d (omega (arith, lt))

-- the rows of a text
abbrev rows_in : List ℕ → List (List (List ℕ))
rows_in text = rows_of (text_lines text)

-- ---- the ends for nodes, in range

module _ (project : Project) (text : List ℕ) (none : HasNoFault project text) where
  one-right : AreFactors (at_both (units 1))
  one-right = record {
    least = record { at_least = omega (arith, ints); at_most = omega (arith, ints) };
    greatest = record { at_least = omega (arith, ints); at_most = omega (arith, ints) };
  }

  zero-right : AreOffsets (at_both (pos 0))
  zero-right = record {
    least = record { at_least = omega (arith, ints); at_most = omega (arith, ints) };
    greatest = record { at_least = omega (arith, ints); at_most = omega (arith, ints) };
  }

  demand-right : (node : ℕ) → AreFactors (ends_for project Demand (rows_in text) (at_both (units 1)) node)
  demand-right node = ends-case AreFactors project Demand (at_both (units 1))
      (row_for project Demand (rows_in text) node) one-right
      (λ words e. factors-right Demand words (counts project text none Demand node words e).right.numbers)

  emitter-right : (node : ℕ) → AreFactors (ends_for project Emitter (rows_in text) (at_both (units 1)) node)
  emitter-right node = ends-case AreFactors project Emitter (at_both (units 1))
      (row_for project Emitter (rows_in text) node) one-right
      (λ words e. factors-right Emitter words (counts project text none Emitter node words e).right.numbers)

  head-right : (node : ℕ) → AreOffsets (ends_for project Head (rows_in text) (at_both (pos 0)) node)
  head-right node = ends-case AreOffsets project Head (at_both (pos 0)) (row_for project Head (rows_in text) node)
      zero-right
      (λ words e. offsets-right project words (counts project text none Head node words e).right.numbers)

  pub demands-right : All AreFactors (demand_ends project (rows_in text))
  demands-right = all-each AreFactors
      (λ j (junction : Junction). ends_for project Demand (rows_in text) (at_both (units 1)) j) 0
      project.junctions.list (λ k x. demand-right k)

  pub emitters-right : All AreFactors (emitter_ends project (rows_in text))
  emitters-right = all-each AreFactors
      (λ j (junction : Junction). ends_for project Emitter (rows_in text) (at_both (units 1)) j) 0
      project.junctions.list (λ k x. emitter-right k)

  pub heads-right : All AreOffsets (head_ends project (rows_in text))
  heads-right = all-each AreOffsets
      (λ r (reservoir : Reservoir).
      ends_for project Head (rows_in text) (at_both (pos 0)) (junction_count project + r)) 0
      project.reservoirs.list (λ k x. head-right (junction_count project + k))

-- ---- a spread

module _ (project : Project) (sound : IsSound project) (text : List ℕ) (none : HasNoFault project text) where
  distinct-places : (m n : ℕ) → m < length project.node_ids → n < length project.node_ids
      → get_or project.node_ids m [] ≡ get_or project.node_ids n [] → m ≡ n
  distinct-places m n lm ln same = elim (cases_eq m n) [
    | inl e ↦ e
    | inr other ↦ elim (cases_lt m n) [
      | inl lt ↦ absurd (sound.ids.distinct_nodes m n [] lt ln same)
      | inr ge ↦ absurd (sound.ids.distinct_nodes n m [] (omega (arith, ge, other)) lm (sym same))
    ]
  ]

  known-node : (name : List ℕ) → is_all name ≡ false → is_known project Level name ≡ true
      → (n : ℕ) × (node_named project name ≡ Some n)
  known-node name other known =
      found (node_named project name) (let e : is_of project Level (node_named project name) ≡ true = rw other at known
      in e)
    where
      found : (o : Option ℕ) → is_of project Level o ≡ true → (n : ℕ) × (o ≡ Some n)
      found None e = absurd (cc)
      found (Some n) e = (n, refl)

  -- a tank is among those that a row means which counts for it
  meant : (k : ℕ) (tank : Tank) (words : List (List ℕ)) → slice_get project.tanks.list k ≡ Some tank
      → Counts project Level (tank_node project k) words
      → (j : ℕ) × (slice_get (tanks_meant project (word 1 words)) j ≡ Some tank)
  meant k tank words at c = elim c.means [
    | inl all ↦ (
      k,
      (let e : tanks_meant project (word 1 words) ≡ project.tanks.list = rw all refl in
          subst (λ ts. slice_get ts k ≡ Some tank) (sym e) at),
    )
    | inr alone ↦
        let name = word 1 words in
        let inside = slice_get_within project.tanks.list k tank at in
        let every = sound.ids.each_node in
        let here : tank_node project k < length project.node_ids = omega (arith, inside, every) in
        let own : get_or project.node_ids (tank_node project k) [] ≡ name = same_name _ name alone.1 in
        let found = known-node name alone.0 c.right.known in
        let place = place_of_id name project.node_ids found.0 found.1 in
        let there = slice_get_within project.node_ids found.0 name place in
        let same : found.0 ≡ tank_node project k = distinct-places found.0 (tank_node project k) there here
        (get_or_from_slice_get project.node_ids found.0 name [] place ∙ sym own) in
        let number : tank_number project (tank_node project k) ≡ k = omega arith in
        let only : tanks_meant project name ≡ tank ∷ [] =
        rw alone.0 (ap (λ o. some_tank (tank_at project o)) found.1
        ∙ ap (λ n. some_tank (slice_get project.tanks.list (tank_number project n))) same
        ∙ ap (λ n. some_tank (slice_get project.tanks.list n)) number ∙ ap some_tank at) in
        (0, subst (λ ts. slice_get ts 0 ≡ Some tank) (sym only) refl)
  ]

  level-right : (k : ℕ) (tank : Tank) → slice_get project.tanks.list k ≡ Some tank
      → IsLevelInterval tank
      (interval_from (ends_for project Level (rows_in text) (at_both tank.initial) (tank_node project k)))
  level-right k tank at = ends-case (λ ends. IsLevelInterval tank (interval_from ends)) project Level
      (at_both tank.initial) (row_for project Level (rows_in text) (tank_node project k))
      (let range = (sound_tank project sound k tank at).ranges.initial in
      record {
        above_least = range.at_least;
        own = record { low = omega (arith, ints); high = omega (arith, ints) };
        below_most = range.at_most;
      })
      (λ words e.
      let c = counts project text none Level (tank_node project k) words e in
      let m = meant k tank words at c in
      let l = levels-right project (tanks_meant project (word 1 words)) words m.0 tank c.right.numbers m.1 in
      record {
        above_least = l.above_least;
        own = record { low = l.low; high = l.high };
        below_most = l.below_most;
      })

  pub is-spread : IsSpread project (spread_in project text)
  is-spread = record {
    demands = at-each IsAroundOne factors_from
        (λ j (junction : Junction). ends_for project Demand (rows_in text) (at_both (units 1)) j) one_alone 0
        project.junctions.list (record { least = omega arith; greatest = omega arith })
        (λ k x. around-one _ (demand-right project text none k));
    emitters = at-each IsAroundOne factors_from
        (λ j (junction : Junction). ends_for project Emitter (rows_in text) (at_both (units 1)) j) one_alone 0
        project.junctions.list (record { least = omega arith; greatest = omega arith })
        (λ k x. around-one _ (emitter-right project text none k));
    heads = at-each (λ x. Holds x (pos 0)) interval_from
        (λ r (reservoir : Reservoir).
        ends_for project Head (rows_in text) (at_both (pos 0)) (junction_count project + r))
        (exactly (pos 0)) 0 project.reservoirs.list
        (record { low = omega (arith, ints); high = omega (arith, ints) })
        (λ k x. around-zero _ (head-right project text none (junction_count project + k)));
    levels = λ k tank at.
        let e = item-is interval_from
        (λ n (t : Tank). ends_for project Level (rows_in text) (at_both t.initial) (tank_node project n))
        (exactly tank.initial) 0 project.tanks.list k tank at in
        let n : 0 + k ≡ k = omega arith in
        subst (IsLevelInterval tank) (sym (e ∙ ap (λ m. interval_from (ends_for project Level (rows_in text)
        (at_both tank.initial) (tank_node project m))) n)) (level-right k tank at);
  }
