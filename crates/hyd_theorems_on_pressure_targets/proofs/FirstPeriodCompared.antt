-- Assignments of the first period, with a draw or with a pipe shut, beside the grids of that period.
use Rattle.std.proofs.Common.{◌≡◌, ℕ, ◌<◌, ℤ, sym, ap, subst, List}
use Rattle.std.specs.Prelude.{slice_set, All}
use Rattle.std.proofs.lemmas.List.Elements.{All-set}
use Rattle.hyd_net.specs.Sound.{IsSound}
use Rattle.hyd_net.specs.RoundedFileNumbers.{IsStateMade}
use Rattle.hyd_spec.specs.ProgramTypes.{Project, LinkState, Closed}
use Rattle.hyd_spec.specs.declared.TankState.{TankState}
use Rattle.hyd_spec.specs.Assignment.{Assignment}
use Rattle.hyd_spec.specs.History.{initial_levels, initial_volumes, initial_links}
use Rattle.hyd_spec_certificates.specs.PeriodNetwork.{Grid, IsGrid}
use Rattle.hyd_spec_certificates.specs.RecordAndStanding.{initial_standing}
use Rattle.hyd_spec_certificates.specs.Decided.{links_at, acts_on}
use Rattle.hyd_spec_pressure_targets.specs.FirstPeriod.{first_tanks, first_links, IsFirstDrawing, IsFirstWithShut}
use Rattle.hyd_spec_pressure_targets.specs.FirstPeriod.{IsFirstGrid, IsFirstGridWithShut}
use Rattle.hyd_theorems_on_definitions.specs.LyingInIntervals.{IsCompared, IsComparedDrawing}
use Rattle.hyd_theorems_on_definitions.specs.SoundLawsAndGrids.{IsSoundGrid}
use Rattle.hyd_theorems_on_definitions.proofs.LawsOfGrids.{IsSoundGrid-made}
use Rattle.hyd_theorems_on_histories.specs.Agreement.{AgreesWith}
use Rattle.hyd_theorems_on_histories.proofs.AgreementAtStart.{agrees_at_start, decided_at_start, same_links}
use Rattle.hyd_theorems_on_histories.proofs.AgreementAfterPeriod.{made-states}
use Rattle.hyd_theorems_on_histories.proofs.CommandedLinkStates.{initial_own, started_own}

module _ (project : Project) (sound : IsSound project) where
  -- the states in which links are in the first period are made of the file's numbers
  made-at-start : All (IsStateMade project.options.unit) (links_at project (initial_standing project))
  made-at-start = made-states project project.links.list (links_at project (initial_standing project))
      (started_own project sound 0 (acts_on (initial_standing project).levels) (initial_links project)
      (initial_own project sound))

  sound-with : (links : List LinkState) (grid : Grid) → All (IsStateMade project.options.unit) links
      → IsGrid project 0 (initial_standing project).levels (initial_standing project).tanks links grid
      → IsSoundGrid grid
  sound-with links grid made is =
      IsSoundGrid-made project 0 (initial_standing project).levels (initial_standing project).tanks links grid is
      (record {
        emitters = sound.made.emitters;
        kinds = sound.made.links;
        sizes = sound.quantities.links;
        states = made;
      })

  module _ (S : ℕ) (some : 0 < S) where
    agrees : AgreesWith project S (initial_standing project) 0 (initial_levels project S) (initial_volumes project S)
        (initial_links project)
    agrees = agrees_at_start project S some

    same-tanks : first_tanks project S ≡ (initial_standing project).tanks
    same-tanks = agrees.tanks_are

    links-same : first_links project S ≡ links_at project (initial_standing project)
    links-same = same_links project S 0 (initial_standing project) (initial_levels project S)
        (initial_volumes project S) (initial_links project) some agrees (decided_at_start project)

    -- a grid of the first period, in the states of a history
    grid-as : (links other : List LinkState) (grid : Grid) → links ≡ other
        → IsGrid project 0 (initial_standing project).levels (initial_standing project).tanks other grid
        → IsGrid project 0 (initial_standing project).levels (first_tanks project S) links grid
    grid-as links other grid e is =
        subst (λ (ls : List LinkState). IsGrid project 0 (initial_standing project).levels (first_tanks project S) ls
        grid) (sym e)
        (subst (λ (ts : List TankState). IsGrid project 0 (initial_standing project).levels ts other grid)
        (sym same-tanks) is)

    pub compared-drawing : (grid : Grid) → IsFirstGrid project grid → (place : ℕ) (q : ℤ) (assignment : Assignment)
        → IsFirstDrawing project S place q assignment
        → IsComparedDrawing project S 0 (initial_standing project).levels (initial_levels project S)
        (first_tanks project S) (first_links project S) place q assignment grid
    compared-drawing grid is place q assignment drawing = record {
      some = some;
      is_grid = grid-as (first_links project S) (links_at project (initial_standing project)) grid links-same is;
      sound = sound-with (links_at project (initial_standing project)) grid made-at-start is;
      lie = agrees.levels_lie;
      assigned = drawing;
    }

    pub compared-with-shut : (pipe : ℕ) (grid : Grid) → IsFirstGridWithShut project pipe grid
        → (assignment : Assignment) → IsFirstWithShut project S pipe assignment
        → IsCompared project S 0 (initial_standing project).levels (initial_levels project S) (first_tanks project S)
        (slice_set (first_links project S) pipe Closed) assignment grid
    compared-with-shut pipe grid is assignment obeys = record {
      some = some;
      is_grid = grid-as (slice_set (first_links project S) pipe Closed)
          (slice_set (links_at project (initial_standing project)) pipe Closed) grid
          (ap (λ (ls : List LinkState). slice_set ls pipe Closed) links-same) is;
      sound = sound-with (slice_set (links_at project (initial_standing project)) pipe Closed) grid
          (All-set (IsStateMade project.options.unit) (links_at project (initial_standing project)) pipe Closed tt
          made-at-start) is;
      lie = agrees.levels_lie;
      assigned = obeys;
    }
