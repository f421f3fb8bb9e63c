-- A run whose ends of periods may be open by some seconds, as contracts see it.
use Rattle.std.specs.Prelude.{◌≡◌, length, Option, Some, IfSome}
use Rattle.hyd_net.specs.Sound.{IsSound}
use Rattle.hyd_spec.specs.ProgramTypes.{Project}
use Rattle.hyd_spec.specs.NodeNumbers.{junction_count, tank_count}
use Rattle.hyd_spec_certificates.specs.declared.StopCause.{StopCause}
use Rattle.hyd_spec_reports.specs.PromisesOfRunsAndChecks.{Sharpness}
use Rattle.hyd_spec_open_ends.specs.OpenStandings.{OpenStanding}
use Rattle.hyd_spec_open_ends.specs.PromisesOfOpenRuns.{EndsOpenlySo}
use Rattle.hyd_cert.specs.Lines.{Header}
use Rattle.hyd_open_certificates.specs.OpenLines.{open_header}
use Rattle.hyd_open_certificates.specs.OpenRowView.{open_header_of}
use Rattle.hyd_open_certificates.specs.declared.open_row.OpenRow.{OpenRow}
use Rattle.hyd_period_facts.specs.declared.facts.Facts.{Facts}
use Rattle.hyd_period_facts.specs.ReservedMemory.{HasRoom}
use Rattle.hyd_period_network.specs.NetView.{NetView}
use Rattle.hyd_period_network.specs.NetsSetToPeriods.{IsNetOf}
use Rattle.hyd_period_vectors.specs.SizeOfSearch.{Room}
use Rattle.hyd_open_period_end.specs.EndOfOpenPeriod.{HasRoom as HasCloseRoom}
use Rattle.hyd_open_period_end.specs.declared.open_period_end.OpenPeriodEnd.{OpenPeriodEnd}
use Rattle.hyd_open_sim_start.specs.StandingsOfOpenRuns.{IsStanding, standing_for}
use Rattle.hyd_open_sim_start.specs.declared.standing.Standing.{Standing as Here}
use Rattle.hyd_sim.specs.NarrowRecordsAndStops.{NamesStuck}
use Rattle.hyd_open_sim.specs.declared.open_settings.OpenSettings.{OpenSettings}

-- the parts of a run
pub record OpenSimView : Type 0 where
  pub project : Project
  pub settings : OpenSettings
  pub net : NetView
  pub room : Room
  pub found : OpenRow
  pub facts : Facts
  pub here : Here
  pub close : OpenPeriodEnd
  pub stopped : Option StopCause

-- the standing of a run
abbrev pub standing_of : OpenSimView → OpenStanding
standing_of sim = standing_for sim.here

-- the certificate of a network has one head for each junction in a vector
abbrev pub header_for : Project → Header
header_for project = open_header (junction_count project) (tank_count project)

-- the sharpness that is asked for
abbrev pub sharpness_of : OpenSettings → Sharpness
sharpness_of settings = record { width = settings.search.width; tight = settings.search.tight }

-- what a run is between its periods
pub record IsOpenSim (sim : OpenSimView) : Type 0 where
  pub sound : IsSound sim.project
  pub net : IsNetOf sim.project sim.net
  pub header : open_header_of sim.found ≡ header_for sim.project
  pub facts : HasRoom sim.project sim.facts
  pub room : sim.room ≡ record {
    junctions = length sim.project.junctions.list;
    rounds = sim.settings.search.rounds;
  }
  pub standing : IsStanding sim.project sim.here
  pub close : HasCloseRoom sim.project sim.close
  pub stopped : IfSome sim.stopped (λ cause. EndsOpenlySo sim.project (standing_of sim) sim.settings.slack
      sim.settings.search.rounds (Some cause))
  pub stuck : IfSome sim.stopped (NamesStuck sim.project (standing_of sim).known sim.settings.search.rounds)
