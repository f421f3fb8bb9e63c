-- What is kept for the first period of a network for a spread.
-- Source: this program's.
use Rattle.std.specs.Prelude.{◌≡◌, length, map}
use Rattle.hyd_spec.specs.ProgramTypes.{Project}
use Rattle.hyd_spec_certificates.specs.SpansAsIntervals.{levels_of}
use Rattle.hyd_spec_certificates.specs.Decided.{links_at}
use Rattle.hyd_spec_spread_runs.specs.RunsForSpreads.{standing_within, StartIsDecided}
use Rattle.hyd_period_network.specs.NetsSetToPeriods.{AreLevels}
use Rattle.hyd_spread_networks.specs.NetsOfSpreads.{AreNetsOf}
use Rattle.hyd_spread_targets.specs.declared.first_period_over.FirstPeriodOver.{FirstPeriodOver}

-- the nets are those of the network for their spread, which leaves no doubt at the start, and the stocks and the states
-- of links are those of the start of its first period; the nets may be set to others
pub record IsReadyOver (project : Project) (first : FirstPeriodOver) : Type 0 where
  pub of : AreNetsOf project first.nets
  pub decided : StartIsDecided project first.nets.spread
  pub levels : map levels_of first.stocks.levels.list ≡ (standing_within project first.nets.spread).levels
  pub levels_lie : AreLevels project first.stocks.levels.list
  pub tanks : first.stocks.tanks.list ≡ (standing_within project first.nets.spread).tanks
  pub tanks_each : length first.stocks.tanks.list ≡ length project.tanks.list
  pub started : first.started.items ≡ links_at project (standing_within project first.nets.spread)
  pub each : length first.links.items ≡ length project.links.list
