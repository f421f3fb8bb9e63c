-- What a step of a run for a spread gives.
-- Source: this program's.
use Rattle.std.specs.Prelude.{◌≡◌, ℕ, ◌≤◌, true, List, Some, None}
use Rattle.hyd_spec.specs.ProgramTypes.{Project}
use Rattle.hyd_spec_certificates.specs.declared.Event.{Event}
use Rattle.hyd_spec_certificates.specs.declared.Side.{Side}
use Rattle.hyd_spec_open_ends.specs.OpenStandings.{OpenStanding}
use Rattle.hyd_spec_spread_runs.specs.OutermostPairs.{spanned, grid_on}
use Rattle.hyd_spec_open_spreads.specs.OpenRunsForSpreads.{IsValidOpenlyOver, spanning_openly}
use Rattle.hyd_spec_spread_stops.specs.StopsOfSpreads.{EndsOverSo}
use Rattle.hyd_theorems_on_definitions.specs.SoundLawsAndGrids.{TanksInOrder}
use Rattle.hyd_cert.specs.RecordView.{row_of}
use Rattle.hyd_period_facts.specs.FactsBeforeEnd.{HaveTanks}
use Rattle.hyd_period_facts.specs.declared.facts.Facts.{Facts}
use Rattle.hyd_period_network.specs.NetAsPeriodNetwork.{states_of}
use Rattle.hyd_period_network.specs.LawsInSettings.{AreStates}
use Rattle.hyd_open_certificates.specs.OpenRowView.{open_record_of}
use Rattle.hyd_open_certificates.specs.declared.open_row.OpenRow.{OpenRow}
use Rattle.hyd_open_facts.specs.FactsOfOpenPeriod.{AreOpenFacts}
use Rattle.hyd_open_sim.specs.declared.open_settings.OpenSettings.{OpenSettings}
use Rattle.hyd_sim.specs.declared.steps.Step.{Step}
use Rattle.hyd_sim.specs.declared.steps.Step.TheVariants.{Period, Finished, Stop}
use Rattle.hyd_spread_networks.specs.NetsOfSpreads.{SpreadNetsView, pair_of, net_on}
use Rattle.hyd_spread_vectors.specs.VectorsOfBothNetworks.{Told}
use Rattle.hyd_spread_sim.specs.DuePeriods.{IsSharpOver}
use Rattle.hyd_spread_sim.specs.SpreadRunView.{SpreadSimView, standing_of}

-- the facts are those of a period by what both grids leave open
abbrev pub AreFactsOver : Project → SpreadNetsView → OpenStanding → OpenRow → ℕ → ℕ → List Event → Facts → Type 0
AreFactsOver project nets standing found first late opened facts =
    AreOpenFacts project (spanned (pair_of nets)) standing (spanning_openly (pair_of nets) (open_record_of found)) first
    late opened facts

-- from one standing to another a record leads on that is valid for the spread of the nets; these are those of its
-- period, with links in the states of the facts, which are its own
pub record LeadsOver (project : Project) (before : OpenStanding) (nets : SpreadNetsView) (found : OpenRow)
    (facts : Facts) (first late : ℕ) (opened : List Event) (now : OpenStanding) : Type 0 where
  pub valid : IsValidOpenlyOver project nets.spread before (pair_of nets) (open_record_of found) now
  pub facts_are : AreFactsOver project nets before found first late opened facts
  pub have : HaveTanks project facts
  pub order : (side : Side) → TanksInOrder (grid_on side (pair_of nets))
  pub states : (side : Side) → AreStates project (states_of (net_on side nets))
  pub links : (side : Side) → states_of (net_on side nets) ≡ facts.links.list

-- from one standing to another a period was done: its end is open by at most the slack, and its record is as sharp as
-- the settings ask, by the vectors that were sought
pub record IsAdvancedOver (told : Told) (project : Project) (settings : OpenSettings) (before : OpenStanding)
    (nets : SpreadNetsView) (found : OpenRow) (facts : Facts) (first late : ℕ) (opened : List Event)
    (now : OpenStanding) : Type 0 where
  pub leads : LeadsOver project before nets found facts first late opened now
  pub within : now.late ≤ settings.slack
  pub sharp : IsSharpOver told project settings nets.spread before (pair_of nets) (row_of found.row) now

-- a run stands behind a period that leads there
abbrev pub IsBehindPeriod : SpreadSimView → SpreadSimView → Type 0
IsBehindPeriod before now =
    LeadsOver now.project (standing_of before) now.nets now.found now.facts now.close.first now.close.late
    now.close.opened.list (standing_of now)

-- a step did a period, and the run stands behind it
pub record IsPeriodOver (before now : SpreadSimView) : Type 0 where
  pub leads : IsBehindPeriod before now
  pub within : (standing_of now).late ≤ now.settings.slack
  pub stopped : now.stopped ≡ None

-- what a step gives: a period that was done; or the run is over and nothing changed; or it stopped by a cause, which
-- holds at its standing, and the standing stays
abbrev pub StepGivesOver : SpreadSimView → SpreadSimView → Step → Type 0
StepGivesOver before now Period = IsPeriodOver before now
StepGivesOver before now Finished = ((standing_of before).known.finished ≡ true) × (now ≡ before)
StepGivesOver before now (Stop cause) =
    (now.stopped ≡ Some cause) × ((standing_of now ≡ standing_of before)
    × EndsOverSo now.project now.nets.spread (standing_of now) now.settings.slack now.settings.search.rounds
    (Some cause))

-- a record was accepted as that of the period that was due, and the run stands behind it
pub record IsAcceptedOver (before now : SpreadSimView) : Type 0 where
  pub leads : IsBehindPeriod before now
  pub stopped : now.stopped ≡ None
