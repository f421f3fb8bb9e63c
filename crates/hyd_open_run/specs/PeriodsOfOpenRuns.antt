-- What a run with a slack is asked for, and what its last period left for a report.
-- Source: this program's.
use Rattle.std.specs.Prelude.{◌≡◌, List}
use Rattle.hyd_cert.specs.RecordView.{row_of}
use Rattle.hyd_open_certificates.specs.OpenRowView.{open_record_of}
use Rattle.hyd_open_report.specs.OpenPeriodLines.{open_lines_by}
pub use Rattle.hyd_open_run_so_far.specs.OpenRunSoFar.{Asked, IsPutOutOpenly, IsBrokenOffOpenly, EndsInOrderOpenly}
pub use Rattle.hyd_open_sim.specs.RunView.{OpenSimView, IsOpenSim, header_for, standing_of}
use Rattle.hyd_open_sim.specs.RunView.{sharpness_of}
pub use Rattle.hyd_open_sim.specs.Acceptance.{IsAccepted}
pub use Rattle.hyd_open_sim.specs.Steps.{found_between}
pub use Rattle.hyd_open_sim.specs.RoomForEvents.{HasEventRoom}
use Rattle.hyd_open_sim.specs.declared.open_settings.OpenSettings.{OpenSettings}
use Rattle.hyd_period_facts.specs.FactsBeforeEnd.{HaveTanks}
use Rattle.hyd_period_network.specs.LawsInSettings.{AreStates}
use Rattle.hyd_period_network.specs.NetAsPeriodNetwork.{grid_of, states_of}
use Rattle.hyd_spec_certificates.specs.Valid.{AreCertificates}
use Rattle.hyd_spec_open_reports.specs.OpenReportLine.{OpenLine}
use Rattle.hyd_theorems_on_definitions.specs.SoundLawsAndGrids.{TanksInOrder}

-- What the settings of a run ask for.
abbrev pub asked_of : OpenSettings → Asked
asked_of settings = record {
  slack = settings.slack;
  rounds = settings.search.rounds;
  sharpness = sharpness_of settings;
}

-- What a run left of its last period is of one period: the vectors are its certificates, the net is that of the period,
-- and the tanks of the facts are its own.
pub record IsOfPeriod (sim : OpenSimView) : Type 0 where
  pub certificates : AreCertificates sim.project (grid_of sim.net) (open_record_of sim.found).row
  pub have : HaveTanks sim.project sim.facts
  pub order : TanksInOrder (grid_of sim.net)
  pub states : AreStates sim.project (states_of sim.net)
  pub links : states_of sim.net ≡ sim.facts.links.list

-- The lines of the report of the last period, whose start is open by as many seconds as its record says.
abbrev pub lines_left : OpenSimView → List OpenLine
lines_left sim =
    open_lines_by sim.project (grid_of sim.net) (states_of sim.net) (row_of sim.found.row) sim.facts
    (record { start = sim.found.late; end = sim.close.late }) sim.close.opened.list
