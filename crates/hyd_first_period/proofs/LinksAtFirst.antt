-- The states of links in the first period, one of them closed.
use Rattle.std.proofs.Common.{◌≡◌, ◌∙◌, ℕ, false, List, length, map, refl, ap, subst, sym}
use Rattle.std.specs.Prelude.{slice_set, Result, Ok, Err, IfErr, is_err}
use Rattle.hyd_net.specs.Sound.{IsSound}
use Rattle.hyd_spec.specs.ProgramTypes.{Project, LinkState, Closed}
use Rattle.hyd_spec_certificates.specs.SpansAsIntervals.{levels_of}
use Rattle.hyd_spec_certificates.specs.declared.LevelSpan.{LevelSpan}
use Rattle.hyd_spec_certificates.specs.PeriodNetwork.{Grid, IsGrid, grid_links}
use Rattle.hyd_spec_certificates.specs.RecordAndStanding.{initial_standing}
use Rattle.hyd_spec_certificates.specs.Decided.{links_at}
use Rattle.hyd_spec_certificates.specs.Valid.{DemandsAreInRange}
use Rattle.hyd_spec_certificates.specs.Stops.{IsFirstDemand}
use Rattle.hyd_theorems_on_definitions.specs.SoundLawsAndGrids.{TanksInOrder}
use Rattle.hyd_theorems_on_histories.proofs.AgreementAfterPeriod.{kept_at_start}
use Rattle.hyd_theorems_on_nesting.proofs.TightVectorsDecide.{tidy_at_start}
use Rattle.hyd_period_network.specs.LawsInSettings.{AreStates}
use Rattle.hyd_period_network.specs.NetsSetToPeriods.{AreLevels, IsNetOf}
use Rattle.hyd_period_network.specs.declared.fault.PeriodDemand.{PeriodDemand}
use Rattle.hyd_first_period.specs.FirstPeriods.{IsFirst, IsReady}
use Rattle.hyd_first_period.specs.declared.first_period.FirstPeriod.{FirstPeriod}
use Rattle.hyd_first_period.proofs.LinksStarted.{states-started, states-started-shut, long-started}
use Rattle.hyd_sim.proofs.LevelsInOrderAtStart.{levels-there, order-there}
use Rattle.hyd_sim.proofs.StopsAndTightRecords.{no-demand-out}

module _ (project : Project) (sound : IsSound project) where
  -- links can have the states of the first period
  pub states-at-first : (states : List LinkState) → states ≡ links_at project (initial_standing project)
      → AreStates project states
  states-at-first = states-started project sound (initial_standing project).levels

  -- also with one closed
  pub states-with-shut : (states : List LinkState) (k : ℕ)
      → states ≡ slice_set (links_at project (initial_standing project)) k Closed → AreStates project states
  states-with-shut = states-started-shut project sound (initial_standing project).levels

  -- and there are as many states as links
  pub long-at-first : length (links_at project (initial_standing project)) ≡ length project.links.list
  long-at-first = long-started project sound (initial_standing project).levels

  -- the levels at the start lie in their tanks
  pub levels-at-first : (levels : List LevelSpan) → map levels_of levels ≡ (initial_standing project).levels
      → AreLevels project levels
  levels-at-first levels e = levels-there project (initial_standing project) levels e (kept_at_start project sound)
      (tidy_at_start project sound)

  -- the tanks of a grid of the first period are in order, whatever its links are
  pub order-at-first : (links : List LinkState) (grid : Grid)
      → IsGrid project 0 (initial_standing project).levels (initial_standing project).tanks links grid
      → TanksInOrder grid
  order-at-first links grid is =
      order-there project (initial_standing project) (record grid {
        links =
            grid_links project (initial_standing project).tanks project.links.list
            (links_at project (initial_standing project));
      }) (tidy_at_start project sound) (record {
        junctions = is.junctions;
        reservoirs = is.reservoirs;
        tank_heads = is.tank_heads;
        links_are = refl;
      })

-- where all demands are in range, none is the first that isn't
pub none-refused : {T : Type 0} (project : Project) (result : Result T PeriodDemand) → DemandsAreInRange project 0
    → IfErr result (λ fault. IsFirstDemand project 0 fault.junction fault.value) → is_err result ≡ false
none-refused project (Ok value) in_range first = refl
none-refused project (Err fault) in_range first =
    absurd (no-demand-out project 0 fault.junction fault.value in_range first)

-- what is kept stays where the net, the stocks and the states at the start do
pub still-ready : (project : Project) (old new : FirstPeriod) → IsReady project old → new.net ≡ old.net
    → new.stocks ≡ old.stocks → new.started ≡ old.started → length new.links.items ≡ length project.links.list
    → IsReady project new
still-ready project old new ready net stocks started each = record {
  of = subst (IsNetOf project) (sym net) ready.of;
  stocks = subst (IsFirst project) (sym stocks) ready.stocks;
  started = ap (λ v. v.items) started ∙ ready.started;
  each = each;
}
