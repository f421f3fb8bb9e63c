-- A run as contracts see it.
use Rattle.std.specs.Prelude.{◌≡◌, ◌≤◌, ℕ, ◌+◌, Bool, false, List, length, map, Option, IfSome}
use Rattle.hyd_net.specs.Sound.{IsSound}
use Rattle.hyd_spec.specs.ProgramTypes.{Project, LinkState}
use Rattle.hyd_spec_certificates.specs.SpansAsIntervals.{levels_of}
use Rattle.hyd_spec_certificates.specs.RecordAndStanding.{Standing}
use Rattle.hyd_spec_certificates.specs.CertificateText.{version_of}
use Rattle.hyd_spec_certificates.specs.Stops.{Stops}
use Rattle.hyd_spec_certificates.specs.declared.StopCause.{StopCause}
use Rattle.hyd_theorems_on_histories.specs.Agreement.{IsKept}
use Rattle.hyd_theorems_on_nesting.specs.StandingsOfRuns.{IsTidy}
use Rattle.hyd_cert.specs.Lines.{Header}
use Rattle.hyd_cert.specs.RecordView.{header_of}
use Rattle.hyd_cert.specs.declared.record.Record.{Record}
use Rattle.hyd_tank.specs.StockIntervals.{volumes_of}
pub use Rattle.hyd_period_facts.specs.FactsBeforeEnd.{HaveTanks}
pub use Rattle.hyd_period_facts.specs.declared.facts.Facts.{Facts}
use Rattle.hyd_period_facts.specs.ReservedMemory.{HasRoom}
use Rattle.hyd_period_network.specs.NetView.{NetView}
use Rattle.hyd_period_network.specs.NetsSetToPeriods.{IsNetOf}
use Rattle.hyd_period_facts.specs.RoomForStocks.{HasRoom as HasNextRoom}
use Rattle.hyd_period_facts.specs.declared.tanks_at_start.TankStart.{TankStart}
use Rattle.hyd_period_end.specs.EndOfPeriod.{HasRoom as HasCloseRoom, AreKeptIn}
use Rattle.hyd_period_end.specs.declared.period_end.PeriodEnd.{PeriodEnd}
use Rattle.hyd_period_vectors.specs.SizeOfSearch.{Room}
use Rattle.hyd_sim.specs.NarrowRecordsAndStops.{NamesStuck}
use Rattle.hyd_sim.specs.declared.settings.Settings.{Settings}
use Rattle.hyd_sim.specs.declared.standing_between_periods.Standing.{Standing as Here}

-- the parts of a run
pub record SimView : Type 0 where
  pub project : Project
  pub settings : Settings
  pub net : NetView
  pub room : Room
  pub row : Record
  pub facts : Facts
  pub here : Here
  pub close : PeriodEnd
  pub stopped : Option StopCause

-- the standing with these stocks and states of tanks
abbrev pub standing_at : ℕ → ℕ → TankStart → List LinkState → Bool → Standing
standing_at number time stocks commanded finished = record {
  number = number;
  time = time;
  levels = map levels_of stocks.levels.list;
  volumes = map volumes_of stocks.volumes.list;
  tanks = stocks.tanks.list;
  commanded = commanded;
  finished = finished;
}

-- the standing that one of the program stands for
abbrev pub standing_for : Here → Standing
standing_for here = standing_at here.number here.time here.stocks here.commanded.items here.finished

-- the standing of a run
abbrev pub standing_of : SimView → Standing
standing_of sim = standing_for sim.here

-- the certificate of a network has one head for each junction in a vector
abbrev pub header_for : Project → Header
header_for project = record {
  version = version_of project;
  junctions = length project.junctions.list;
  tanks = length project.tanks.list;
}

-- a standing of a run: it keeps what every standing of a run keeps, its stocks lie within the bounds of their tanks,
-- there is room for the next one's, and as each period before the end lasts a second at least, no more were done than
-- seconds are over, but for the last
pub record IsStanding (project : Project) (here : Here) : Type 0 where
  pub kept : IsKept project (standing_for here)
  pub tidy : IsTidy project (standing_for here)
  pub held : AreKeptIn project here.stocks
  pub room : HasNextRoom project here.stocks
  pub few : here.number ≤ here.time + 1
  pub unfinished : here.finished ≡ false → here.number ≤ here.time

-- what a run is between its periods
pub record IsSim (sim : SimView) : Type 0 where
  pub sound : IsSound sim.project
  pub net : IsNetOf sim.project sim.net
  pub header : header_of sim.row ≡ header_for sim.project
  pub facts : HasRoom sim.project sim.facts
  pub room : sim.room ≡ record { junctions = length sim.project.junctions.list; rounds = sim.settings.rounds }
  pub standing : IsStanding sim.project sim.here
  pub close : HasCloseRoom sim.project sim.close
  pub stopped : IfSome sim.stopped (λ cause. (sim.here.finished ≡ false)
      × Stops sim.project (standing_of sim) sim.settings.rounds cause)
  pub stuck : IfSome sim.stopped (NamesStuck sim.project (standing_of sim) sim.settings.rounds)
