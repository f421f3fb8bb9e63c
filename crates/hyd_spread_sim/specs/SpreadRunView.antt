-- A run for a spread, as contracts see it.
use Rattle.std.specs.Prelude.{◌≡◌, Option, Some, IfSome}
use Rattle.hyd_net.specs.Sound.{IsSound}
use Rattle.hyd_spec.specs.ProgramTypes.{Project}
use Rattle.hyd_spec_certificates.specs.declared.StopCause.{StopCause}
use Rattle.hyd_spec_open_ends.specs.OpenStandings.{OpenStanding}
use Rattle.hyd_spec_spread.specs.Spreads.{IsSpread}
use Rattle.hyd_spec_spread_runs.specs.RunsForSpreads.{StartIsDecided}
use Rattle.hyd_spec_spread_stops.specs.StopsOfSpreads.{EndsOverSo}
use Rattle.hyd_open_certificates.specs.OpenRowView.{open_header_of}
use Rattle.hyd_open_certificates.specs.declared.open_row.OpenRow.{OpenRow}
use Rattle.hyd_period_facts.specs.declared.facts.Facts.{Facts}
use Rattle.hyd_period_facts.specs.ReservedMemory.{HasRoom}
use Rattle.hyd_open_period_end.specs.EndOfOpenPeriod.{HasRoom as HasCloseRoom}
use Rattle.hyd_open_period_end.specs.declared.open_period_end.OpenPeriodEnd.{OpenPeriodEnd}
use Rattle.hyd_open_sim.specs.RunView.{header_for}
use Rattle.hyd_open_sim.specs.declared.open_settings.OpenSettings.{OpenSettings}
use Rattle.hyd_open_sim_start.specs.StandingsOfOpenRuns.{IsStanding, standing_for}
use Rattle.hyd_open_sim_start.specs.declared.standing.Standing.{Standing as Here}
use Rattle.hyd_spread_networks.specs.NetsOfSpreads.{SpreadNetsView, AreNetsOf}
use Rattle.hyd_spread_stops.specs.StuckOverSpreads.{NamesStuckOver}
use Rattle.hyd_spread_vectors.specs.VectorsOfBothNetworks.{SpreadRoom}
use Rattle.hyd_spread_sim.specs.DuePeriods.{IsSearchFor}

-- the parts of a run
pub record SpreadSimView : Type 0 where
  pub project : Project
  pub settings : OpenSettings
  pub nets : SpreadNetsView
  pub room : SpreadRoom
  pub found : OpenRow
  pub facts : Facts
  pub here : Here
  pub close : OpenPeriodEnd
  pub stopped : Option StopCause

-- the standing of a run
abbrev pub standing_of : SpreadSimView → OpenStanding
standing_of sim = standing_for sim.here

-- what a run is between its periods; its spread leaves no doubt at the start
pub record IsSpreadSim (sim : SpreadSimView) : Type 0 where
  pub sound : IsSound sim.project
  pub spread : IsSpread sim.project sim.nets.spread
  pub decided : StartIsDecided sim.project sim.nets.spread
  pub nets : AreNetsOf sim.project sim.nets
  pub header : open_header_of sim.found ≡ header_for sim.project
  pub facts : HasRoom sim.project sim.facts
  pub room : IsSearchFor sim.project sim.settings.search.rounds sim.room
  pub standing : IsStanding sim.project sim.here
  pub close : HasCloseRoom sim.project sim.close
  pub stopped : IfSome sim.stopped (λ cause. EndsOverSo sim.project sim.nets.spread (standing_of sim)
      sim.settings.slack sim.settings.search.rounds (Some cause))
  pub stuck : IfSome sim.stopped (NamesStuckOver sim.project sim.nets.spread (standing_of sim).known
      sim.settings.search.rounds)
