-- The period that is due in a run for a spread: how sharp its record is by the vectors that were sought, and the stop
-- of a period whose vectors are as sharp as can be.
-- Source: this program's.
use Rattle.std.specs.Prelude.{◌≡◌, ◌⊎◌, ℕ, length, true, false, MatchBool}
use Rattle.hyd_spec.specs.ProgramTypes.{Project}
use Rattle.hyd_spec.specs.NodeNumbers.{tank_count}
use Rattle.hyd_spec_certificates.specs.declared.StopCause.{StopCause}
use Rattle.hyd_spec_certificates.specs.RecordAndStanding.{Record}
use Rattle.hyd_spec_open_ends.specs.OpenStandings.{OpenStanding}
use Rattle.hyd_spec_spread.specs.Spreads.{Spread}
use Rattle.hyd_spec_spread_promises.specs.SharpOverSpreads.{IsNarrowWithin}
use Rattle.hyd_spec_spread_runs.specs.OutermostPairs.{Pair}
use Rattle.hyd_cert.specs.RecordView.{row_of}
use Rattle.hyd_period_facts.specs.declared.facts.Facts.{Facts}
use Rattle.hyd_open_certificates.specs.declared.open_row.OpenRow.{OpenRow}
use Rattle.hyd_open_period_end.specs.declared.open_period_end.OpenPeriodEnd.{OpenPeriodEnd}
use Rattle.hyd_open_sim.specs.EndedPeriods.{next_standing}
use Rattle.hyd_open_sim.specs.declared.open_settings.OpenSettings.{OpenSettings}
use Rattle.hyd_open_sim_start.specs.StandingsOfOpenRuns.{standing_for}
use Rattle.hyd_open_sim_start.specs.declared.standing.Standing.{Standing as Here}
use Rattle.hyd_sim.specs.NarrowRecordsAndStops.{IsBySpentRounds, stop_of, open_stop_of}
use Rattle.hyd_spread_networks.specs.NetsOfSpreads.{SpreadNetsView, pair_of}
use Rattle.hyd_spread_vectors.specs.VectorsOfBothNetworks.{Told, Held, LacksFirstOver, SpreadRoom}
use Rattle.hyd_spread_vectors.specs.declared.lack_on_network.SpreadLack.{SpreadLack}
use Rattle.hyd_spread_sim.specs.MadeOver.{IsMadeOver}
use Rattle.hyd_spread_sim.specs.PeriodAttempt.{AreSoughtOver}
use Rattle.hyd_spread_sim.specs.declared.period_attempt.Fault.{Fault}
use Rattle.hyd_spread_sim.specs.declared.period_attempt.Fault.TheVariants.{Lack, Open}

-- a search is for the network, and takes so many rounds
pub record IsSearchFor (project : Project) (rounds : ℕ) (room : SpreadRoom) : Type 0 where
  pub junctions : room.junctions ≡ length project.junctions.list
  pub tanks : room.tanks ≡ tank_count project
  pub rounds_are : room.rounds ≡ rounds

-- the vectors of a record are those that were sought for the sharpness that the settings ask: tight ones; or, where not
-- all need be tight, the period is narrow, and each vector is a certificate, and the finder's where that is one
abbrev pub IsSharpOver : Told → Project → OpenSettings → Spread → OpenStanding → Pair → Record → OpenStanding → Type 0
IsSharpOver told project settings spread standing pair row next =
    MatchBool settings.search.tight (AreSoughtOver true told pair (tank_count project) settings.search.rounds row)
    (AreSoughtOver true told pair (tank_count project) settings.search.rounds row
    ⊎ (IsNarrowWithin settings.search.width spread standing pair row next
    × AreSoughtOver false told pair (tank_count project) settings.search.rounds row))

-- a period was done, and its record is as sharp as the settings ask by the vectors that were sought
pub record IsDoneOver (told : Told) (project : Project) (settings : OpenSettings) (here : Here) (nets : SpreadNetsView)
    (found : OpenRow) (facts : Facts) (close : OpenPeriodEnd) : Type 0 where
  pub made : IsMadeOver project settings.slack here nets found facts close
  pub sharp : IsSharpOver told project settings nets.spread (standing_for here) (pair_of nets) (row_of found.row)
      (next_standing project here close)

-- an attempt that doesn't stop the run found each vector that it sought, or spent its rounds toward the first one that
-- lacks
abbrev pub GoesOnOver : Told → Pair → ℕ → ℕ → Held → Record → Type 0
GoesOnOver told pair tanks rounds held row =
    AreSoughtOver false told pair tanks rounds row
    ⊎ ((lack : SpreadLack) × (IsBySpentRounds lack.lack × LacksFirstOver false told pair tanks rounds held lack))

-- the stop of a period whose vectors are as sharp as can be
abbrev pub fault_stop_of : ℕ → ℕ → Fault → StopCause
fault_stop_of number rounds (Lack lack) = stop_of number rounds lack.lack
fault_stop_of number rounds (Open what) = open_stop_of number what
