-- Periods that are over, whose starts or ends may be open by some seconds, and the standings behind them.
-- Source: this program's.
use Rattle.std.specs.Prelude.{◌≡◌, ◌≢◌, ℕ, suc, ◌<◌, ◌≤◌, true, ◌==◌, if◌then◌else◌}
use Rattle.hyd_spec.specs.ProgramTypes.{Project}
use Rattle.hyd_spec_certificates.specs.PeriodNetwork.{Grid}
use Rattle.hyd_spec_open_ends.specs.OpenStandings.{OpenStanding, OpenRecord}
use Rattle.hyd_spec_open_ends.specs.OpenRecords.{LeadsOnOpenly, IsValidOpenly}
use Rattle.hyd_period_facts.specs.FactsBeforeEnd.{HaveTanks}
use Rattle.hyd_period_facts.specs.declared.facts.Facts.{Facts}
use Rattle.hyd_period_network.specs.NetAsPeriodNetwork.{grid_of, states_of}
use Rattle.hyd_period_network.specs.NetView.{NetView}
use Rattle.hyd_period_network.specs.LawsInSettings.{AreStates}
use Rattle.hyd_period_end.specs.EndOfPeriod.{AreKeptIn}
use Rattle.hyd_open_certificates.specs.OpenRowView.{open_record_of}
use Rattle.hyd_open_certificates.specs.declared.open_row.OpenRow.{OpenRow}
use Rattle.hyd_open_facts.specs.FactsOfOpenPeriod.{AreOpenFacts}
use Rattle.hyd_open_period_end.specs.EndOfOpenPeriod.{standing_left}
use Rattle.hyd_open_period_end.specs.declared.open_period_end.OpenPeriodEnd.{OpenPeriodEnd}
use Rattle.hyd_open_sim_start.specs.StandingsOfOpenRuns.{known_for, standing_for}
use Rattle.hyd_open_sim_start.specs.declared.standing.Standing.{Standing as Here}
use Rattle.hyd_theorems_on_definitions.specs.SoundLawsAndGrids.{TanksInOrder}
use Rattle.hyd_theorems_on_open_standings.specs.FirmStandings.{IsFirm}

-- where the run ends, the standing after its last period: the stocks, the states and the commands stay
abbrev pub last_standing : Here → OpenStanding
last_standing here = record {
  known = record (known_for here) { number = suc here.number; finished = true };
  late = here.late;
}

-- the standing after a period that ends so
abbrev pub next_standing : Project → Here → OpenPeriodEnd → OpenStanding
next_standing project here close =
    if here.time == project.times.duration then last_standing here else standing_left (standing_for here) close

-- a run can go on behind a period that leaves this: the next standing is firm, and where the run isn't over, it comes a
-- second later or more, with stocks within the bounds of their tanks
pub record CanGoOn (project : Project) (here : Here) (close : OpenPeriodEnd) : Type 0 where
  pub firm : IsFirm project (next_standing project here close)
  pub held : here.time ≢ project.times.duration → AreKeptIn project close.next
  pub later : here.time ≢ project.times.duration → 0 < close.first

-- a period is over by a record on a grid, and this is what it leaves: its record leads on, its end is open by at most
-- the slack, the facts are its own, and where the run goes on, it ends a second after its first start or later, and the
-- next stocks lie within the bounds of their tanks
pub record IsOverBy (project : Project) (slack : ℕ) (here : Here) (grid : Grid) (found : OpenRecord) (facts : Facts)
    (close : OpenPeriodEnd) : Type 0 where
  pub leads_on : LeadsOnOpenly project grid (standing_for here) found (next_standing project here close)
  pub within : (next_standing project here close).late ≤ slack
  pub facts_are : AreOpenFacts project grid (standing_for here) found close.first close.late close.opened.list facts
  pub have : HaveTanks project facts
  pub held : here.time ≢ project.times.duration → AreKeptIn project close.next
  pub later : here.time ≢ project.times.duration → 0 < close.first

-- so it is by the record that the program keeps
abbrev pub IsOver : Project → ℕ → Here → Grid → OpenRow → Facts → OpenPeriodEnd → Type 0
IsOver project slack here grid found facts close =
    IsOverBy project slack here grid (open_record_of found) facts close

-- its record is valid besides, and the net is that of the period, with links in the states of the facts
pub record IsMade (project : Project) (slack : ℕ) (here : Here) (net : NetView) (found : OpenRow) (facts : Facts)
    (close : OpenPeriodEnd) : Type 0 where
  pub valid : IsValidOpenly project (standing_for here) (grid_of net) (open_record_of found)
      (next_standing project here close)
  pub over : IsOver project slack here (grid_of net) found facts close
  pub order : TanksInOrder (grid_of net)
  pub states : AreStates project (states_of net)
  pub links : states_of net ≡ facts.links.list
