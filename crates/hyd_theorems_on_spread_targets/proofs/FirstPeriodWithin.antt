-- Assignments of the first period within a spread, with a draw or with a pipe shut, beside what is known of its start.
use Rattle.std.proofs.Common.{◌≡◌, ℕ, suc, ◌+◌, ◌<◌, ℤ, pos, refl, subst, arith, List, [], ◌∷◌, length}
use Rattle.std.specs.Prelude.{slice_set, slice_index_or, All}
use Rattle.std.specs.List.{AllZip}
use Rattle.std.proofs.lemmas.List.Elements.{All-set}
use Rattle.hyd_net.specs.Sound.{IsSound}
use Rattle.hyd_net.specs.RoundedFileNumbers.{IsStateMade}
use Rattle.hyd_spec.specs.ProgramTypes.{Project, Tank, LinkState, Closed}
use Rattle.hyd_spec.specs.declared.TankState.{TankState}
use Rattle.hyd_spec.specs.Lists.{map_from}
use Rattle.hyd_spec.specs.Assignment.{Assignment, IsAssignment}
use Rattle.hyd_spec.specs.AssignmentWithDraw.{IsAssignmentDrawing}
use Rattle.hyd_spec.specs.History.{initial_links}
use Rattle.hyd_spec_certificates.specs.Interval.{Interval}
use Rattle.hyd_spec_certificates.specs.RecordAndStanding.{Standing}
use Rattle.hyd_spec_certificates.specs.Decided.{links_at, acts_on, nowhere}
use Rattle.hyd_spec_spread.specs.Spreads.{Spread, level_interval}
use Rattle.hyd_spec_spread.specs.IntervalsOfData.{known_levels}
use Rattle.hyd_spec_spread.specs.NetworksWithin.{NodeData, with_data}
use Rattle.hyd_spec_spread.specs.HistoriesWithin.{HoldsParts}
use Rattle.hyd_spec_spread_runs.specs.RunsForSpreads.{standing_within, StartIsDecided}
use Rattle.hyd_spec_spread_targets.specs.FirstPeriodWithin.{tanks_from, links_from, IsStartWithin}
use Rattle.hyd_spec_spread_targets.specs.FirstPeriodWithin.{IsFirstDrawingWithin, IsFirstWithShutWithin}
use Rattle.hyd_theorems_on_definitions.specs.LyingInIntervals.{LiesIn, LevelsLie}
use Rattle.hyd_theorems_on_definitions.specs.SoundLawsAndGrids.{AreCapacitiesMade}
use Rattle.hyd_theorems_on_histories.specs.Agreement.{AgreesWith}
use Rattle.hyd_theorems_on_histories.proofs.AgreementAtStart.{states_agree, same_links}
use Rattle.hyd_theorems_on_histories.proofs.AgreementAfterPeriod.{made-states}
use Rattle.hyd_theorems_on_histories.proofs.CommandedLinkStates.{initial_own, started_own}
use Rattle.hyd_theorems_on_histories.proofs.ListsByPlace.{lies_at}
use Rattle.hyd_theorems_on_spread.specs.AssignmentsWithin.{IsAssignmentWithin}
use Rattle.hyd_theorems_on_spread.proofs.ZippedLists.{zip-long}
use Rattle.hyd_theorems_on_spread_targets.proofs.HeldComparisonWithin.{IsDrawingWithin}

all-lie : (S : ℕ) (xs : List Interval) (zs : List ℤ) → AllZip (HoldsParts S) xs zs → LevelsLie S xs zs
all-lie S [] [] all = tt
all-lie S [] (z ∷ zs) all = absurd all
all-lie S (x ∷ xs) [] all = absurd all
all-lie S (x ∷ xs) (z ∷ zs) all = (record { low = all.0.low; high = all.0.high }, all-lie S xs zs all.1)

numbered-long : (f : ℕ → Tank → Interval) (from : ℕ) (tanks : List Tank) → length (map_from f from tanks) ≡ length tanks
numbered-long f from [] = refl
numbered-long f from (t ∷ tanks) = let e = numbered-long f (suc from) tanks in omega (arith, e)

module _ (project : Project) (sound : IsSound project) (spread : Spread) where
  -- the states in which links are known to be in the first period
  abbrev pub known_links : List LinkState
  known_links = links_at project (standing_within project spread)

  abbrev pub known_tanks : List TankState
  known_tanks = (standing_within project spread).tanks

  -- they are made of the file's numbers
  made-at-start : All (IsStateMade project.options.unit) known_links
  made-at-start = made-states project project.links.list known_links
      (started_own project sound 0 (acts_on (known_levels project spread)) (initial_links project)
      (initial_own project sound))

  made-with : (links : List LinkState) → All (IsStateMade project.options.unit) links → AreCapacitiesMade project links
  made-with links made = record {
    emitters = sound.made.emitters;
    kinds = sound.made.links;
    sizes = sound.quantities.links;
    states = made;
  }

  module _ (decided : StartIsDecided project spread) (S : ℕ) (some : 0 < S) (nodes : NodeData) (levels : List ℤ)
      (start : IsStartWithin project spread S nodes levels) where
    lie : LevelsLie S (known_levels project spread) levels
    lie = all-lie S (known_levels project spread) levels start.levels_are

    same-tanks : tanks_from project S levels ≡ known_tanks
    same-tanks = states_agree S (λ k. slice_index_or (known_levels project spread) k nowhere) 0 project.tanks.list
        levels known_tanks some
        (let a = zip-long (LiesIn S) (known_levels project spread) levels lie in
        let b = numbered-long (level_interval spread) 0 project.tanks.list in omega (arith, a, b))
        (λ k. let n : k ≡ 0 + k = omega arith in
        subst (λ m. LiesIn S (slice_index_or (known_levels project spread) m nowhere)
        (slice_index_or levels k (pos 0))) n (lies_at S (known_levels project spread) levels k lie))
        decided.states

    -- no volume has a part in the states of links
    abbrev dry : Standing
    dry = record (standing_within project spread) { volumes = [] }

    agrees : AgreesWith project S dry 0 levels [] (initial_links project)
    agrees = record {
      time_is = refl;
      levels_lie = lie;
      volumes_lie = tt;
      tanks_are = same-tanks;
      commanded_are = refl;
    }

    same-states : links_from project S levels ≡ known_links
    same-states = same_links project S 0 dry levels [] (initial_links project) some agrees decided.controls

    as-drawing : (place : ℕ) (q : ℤ) (assignment : Assignment)
        → IsAssignmentDrawing (with_data project nodes) S 0 levels (tanks_from project S levels)
        (links_from project S levels) place q assignment
        → IsDrawingWithin project spread S 0 (known_levels project spread) levels known_tanks known_links place q nodes
        assignment
    as-drawing place q assignment assigned = record {
      made = made-with known_links made-at-start;
      lie = lie;
      within = start.within;
      assigned = subst (λ (ts : List TankState). IsAssignmentDrawing (with_data project nodes) S 0 levels ts known_links
          place q assignment) same-tanks
          (subst (λ (ls : List LinkState). IsAssignmentDrawing (with_data project nodes) S 0 levels
          (tanks_from project S levels) ls place q assignment) same-states assigned);
    }

    as-shut : (pipe : ℕ) (assignment : Assignment)
        → IsAssignment (with_data project nodes) S 0 levels (tanks_from project S levels)
        (slice_set (links_from project S levels) pipe Closed) assignment
        → IsAssignmentWithin project spread S 0 (known_levels project spread) levels known_tanks
        (slice_set known_links pipe Closed) nodes assignment
    as-shut pipe assignment assigned = record {
      made = made-with (slice_set known_links pipe Closed)
          (All-set (IsStateMade project.options.unit) known_links pipe Closed tt made-at-start);
      lie = lie;
      within = start.within;
      assigned = subst (λ (ts : List TankState). IsAssignment (with_data project nodes) S 0 levels ts
          (slice_set known_links pipe Closed) assignment) same-tanks
          (subst (λ (ls : List LinkState). IsAssignment (with_data project nodes) S 0 levels
          (tanks_from project S levels) (slice_set ls pipe Closed) assignment) same-states assigned);
    }

  pub drawing-within : StartIsDecided project spread → (S place : ℕ) → 0 < S → (q : ℤ) (assignment : Assignment)
      → (first : IsFirstDrawingWithin project spread S place q assignment)
      → IsDrawingWithin project spread S 0 (known_levels project spread) first.levels known_tanks known_links place q
      first.nodes assignment
  drawing-within decided S place some q assignment first =
      as-drawing decided S some first.nodes first.levels first.start place q assignment first.assigned

  pub shut-within : StartIsDecided project spread → (S pipe : ℕ) → 0 < S → (assignment : Assignment)
      → (first : IsFirstWithShutWithin project spread S pipe assignment)
      → IsAssignmentWithin project spread S 0 (known_levels project spread) first.levels known_tanks
      (slice_set known_links pipe Closed) first.nodes assignment
  shut-within decided S pipe some assignment first =
      as-shut decided S some first.nodes first.levels first.start pipe assignment first.assigned
