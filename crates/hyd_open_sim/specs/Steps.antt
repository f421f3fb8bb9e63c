-- What a step of a run gives whose ends of periods may be open by some seconds.
-- Source: this program's.
use Rattle.std.specs.Prelude.{◌≡◌, ◌⊎◌, ℕ, ◌≤◌, ℤ, true, false, List, Option, Some, None, MatchBool}
use Rattle.hyd_spec.specs.ProgramTypes.{Project}
use Rattle.hyd_spec.specs.NodeNumbers.{tank_count}
use Rattle.hyd_spec_certificates.specs.PeriodNetwork.{Grid}
use Rattle.hyd_spec_certificates.specs.declared.Event.{Event}
use Rattle.hyd_spec_open_ends.specs.OpenStandings.{OpenStanding, OpenRecord}
use Rattle.hyd_spec_open_ends.specs.OpenRecords.{IsValidOpenly}
use Rattle.hyd_spec_open_ends.specs.OpenRuns.{OpenFound}
use Rattle.hyd_spec_open_ends.specs.PromisesOfOpenRuns.{EndsOpenlySo}
use Rattle.hyd_spec_open_reports.specs.PromisesOfOpenReports.{IsNarrowOpenly, IsSharpOpenly}
use Rattle.hyd_period_facts.specs.FactsBeforeEnd.{HaveTanks}
use Rattle.hyd_period_facts.specs.declared.facts.Facts.{Facts}
use Rattle.hyd_period_network.specs.NetAsPeriodNetwork.{grid_of, states_of}
use Rattle.hyd_period_network.specs.NetView.{NetView}
use Rattle.hyd_period_network.specs.LawsInSettings.{AreStates}
use Rattle.hyd_open_certificates.specs.OpenRowView.{open_record_of}
use Rattle.hyd_open_certificates.specs.declared.open_row.OpenRow.{OpenRow}
use Rattle.hyd_open_facts.specs.FactsOfOpenPeriod.{AreOpenFacts}
use Rattle.hyd_open_period_end.specs.declared.open_period_end.OpenPeriodEnd.{OpenPeriodEnd}
use Rattle.hyd_open_sim_start.specs.StandingsOfOpenRuns.{standing_for}
use Rattle.hyd_open_sim_start.specs.declared.standing.Standing.{Standing as Here}
use Rattle.hyd_sim.specs.PeriodAttempt.{AreSought}
use Rattle.hyd_sim.specs.declared.steps.Step.{Step}
use Rattle.hyd_sim.specs.declared.steps.Step.TheVariants.{Period, Finished, Stop}
use Rattle.hyd_theorems_on_definitions.specs.SoundLawsAndGrids.{TanksInOrder}
use Rattle.hyd_open_sim.specs.EndedPeriods.{IsMade, next_standing}
use Rattle.hyd_open_sim.specs.RunView.{OpenSimView, sharpness_of, standing_of}
use Rattle.hyd_open_sim.specs.declared.open_settings.OpenSettings.{OpenSettings}

-- the vectors of a record that is as sharp as the settings ask are those that were sought: tight ones; or, where not
-- all need be tight, the record is narrow, and each vector is a certificate, and the finder's where that is one,
-- whether or not it tells certificates of the others
abbrev pub IsSharpAsSought : Option (List ℤ) → Project → OpenSettings → OpenStanding → Grid → OpenRecord → OpenStanding
    → Type 0
IsSharpAsSought told project settings standing grid found next =
    MatchBool settings.search.tight (AreSought true told grid (tank_count project) settings.search.rounds found.row)
    (AreSought true told grid (tank_count project) settings.search.rounds found.row
    ⊎ (IsNarrowOpenly settings.search.width standing found next
    × AreSought false told grid (tank_count project) settings.search.rounds found.row))

-- a period was done, and its record is as sharp as the settings ask by the vectors that were sought
pub record IsDone (told : Option (List ℤ)) (project : Project) (settings : OpenSettings) (here : Here) (net : NetView)
    (found : OpenRow) (facts : Facts) (close : OpenPeriodEnd) : Type 0 where
  pub made : IsMade project settings.slack here net found facts close
  pub sought : IsSharpAsSought told project settings (standing_for here) (grid_of net) (open_record_of found)
      (next_standing project here close)

-- the period of a record, with the standings before and behind it
abbrev pub found_between : OpenStanding → Grid → OpenRecord → OpenStanding → OpenFound
found_between before grid found now = record { standing = before; grid = grid; found = found; next = now }

-- from one standing to another a period was done: its record is valid and leads on, its end is open by at most the
-- slack, the net is that of the period, with links in the states of the facts, the facts are its own, and the record is
-- as sharp as the settings ask, by the vectors that were sought
pub record IsAdvanced (told : Option (List ℤ)) (project : Project) (settings : OpenSettings) (before : OpenStanding)
    (net : NetView) (found : OpenRow) (facts : Facts) (first late : ℕ) (opened : List Event) (now : OpenStanding) : Type 0 where
  pub valid : IsValidOpenly project before (grid_of net) (open_record_of found) now
  pub within : now.late ≤ settings.slack
  pub facts_are : AreOpenFacts project (grid_of net) before (open_record_of found) first late opened facts
  pub have : HaveTanks project facts
  pub order : TanksInOrder (grid_of net)
  pub states : AreStates project (states_of net)
  pub links : states_of net ≡ facts.links.list
  pub sharp : IsSharpOpenly project (sharpness_of settings)
      (found_between before (grid_of net) (open_record_of found) now)
  pub sought : IsSharpAsSought told project settings before (grid_of net) (open_record_of found) now

-- a step did a period, and the run stands behind it
pub record IsPeriod (before now : OpenSimView) : Type 0 where
  pub valid : IsValidOpenly now.project (standing_of before) (grid_of now.net) (open_record_of now.found)
      (standing_of now)
  pub within : (standing_of now).late ≤ now.settings.slack
  pub facts : AreOpenFacts now.project (grid_of now.net) (standing_of before) (open_record_of now.found)
      now.close.first now.close.late now.close.opened.list now.facts
  pub have : HaveTanks now.project now.facts
  pub order : TanksInOrder (grid_of now.net)
  pub states : AreStates now.project (states_of now.net)
  pub links : states_of now.net ≡ now.facts.links.list
  pub sharp : IsSharpOpenly now.project (sharpness_of now.settings)
      (found_between (standing_of before) (grid_of now.net) (open_record_of now.found) (standing_of now))
  pub stopped : now.stopped ≡ None

-- what a step gives: a period that was done; or the run is over and nothing changed; or it stopped by a cause, which
-- holds at its standing, and the standing stays
abbrev pub StepGives : OpenSimView → OpenSimView → Step → Type 0
StepGives before now Period = IsPeriod before now
StepGives before now Finished = ((standing_of before).known.finished ≡ true) × (now ≡ before)
StepGives before now (Stop cause) =
    (now.stopped ≡ Some cause) × ((standing_of now ≡ standing_of before)
    × EndsOpenlySo now.project (standing_of now) now.settings.slack now.settings.search.rounds (Some cause))
