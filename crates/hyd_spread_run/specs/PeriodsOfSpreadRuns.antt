-- What a run for a spread is asked for, and what its last period left for a report.
-- Source: this program's.
use Rattle.std.specs.Prelude.{◌≡◌, List}
use Rattle.hyd_spec_open_reports.specs.OpenReportLine.{OpenLine}
use Rattle.hyd_spec_spread.specs.Spreads.{Spread}
use Rattle.hyd_spec_spread_runs.specs.RunsForSpreads.{AreCertificatesOver}
use Rattle.hyd_theorems_on_definitions.specs.SoundLawsAndGrids.{TanksInOrder}
use Rattle.hyd_cert.specs.RecordView.{row_of}
use Rattle.hyd_open_certificates.specs.OpenRowView.{open_record_of}
use Rattle.hyd_open_sim.specs.RunView.{sharpness_of}
use Rattle.hyd_open_sim.specs.declared.open_settings.OpenSettings.{OpenSettings}
use Rattle.hyd_period_facts.specs.FactsBeforeEnd.{HaveTanks}
use Rattle.hyd_period_network.specs.LawsInSettings.{AreStates}
use Rattle.hyd_period_network.specs.NetAsPeriodNetwork.{states_of}
use Rattle.hyd_spread_bounds.specs.BothSides.{IsOrderedPair}
use Rattle.hyd_spread_networks.specs.NetsOfSpreads.{pair_of}
use Rattle.hyd_spread_report.specs.LinesOverBothSides.{spread_lines_by}
pub use Rattle.hyd_spread_run_so_far.specs.SpreadRunSoFar.{Asked, IsPutOutOver, IsBrokenOffOver, EndsInOrderOver}
pub use Rattle.hyd_spread_sim.specs.SpreadRunView.{SpreadSimView, IsSpreadSim, standing_of}
pub use Rattle.hyd_spread_sim.specs.SpreadSteps.{IsAcceptedOver}
pub use Rattle.hyd_open_sim.specs.RoomForEvents.{HasEventRoom}

-- What the settings of a run ask for, for a spread.
abbrev pub asked_of : OpenSettings → Spread → Asked
asked_of settings spread = record {
  spread = spread;
  slack = settings.slack;
  rounds = settings.search.rounds;
  sharpness = sharpness_of settings;
}

-- What a run left of its last period is of one period: the nets are those of both sides of the period, in order, the
-- vectors are certificates on them, and the tanks and the links of the facts are the period's.
pub record IsOfPeriod (sim : SpreadSimView) : Type 0 where
  pub pair : IsOrderedPair (pair_of sim.nets)
  pub certificates : AreCertificatesOver sim.project (pair_of sim.nets) (open_record_of sim.found).row
  pub have : HaveTanks sim.project sim.facts
  pub order : TanksInOrder (pair_of sim.nets).lower
  pub states : AreStates sim.project (states_of sim.nets.upper)
  pub links : states_of sim.nets.upper ≡ sim.facts.links.list

-- The lines of the report of the last period, whose start is open by as many seconds as its record says.
abbrev pub lines_left : SpreadSimView → List OpenLine
lines_left sim =
    spread_lines_by sim.project (pair_of sim.nets) (states_of sim.nets.upper) (row_of sim.found.row) sim.facts
    (record { start = sim.found.late; end = sim.close.late }) sim.close.opened.list
