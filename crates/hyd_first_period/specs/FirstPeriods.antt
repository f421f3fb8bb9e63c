-- What is kept for the first period of a network.
-- Source: this program's.
use Rattle.std.specs.Prelude.{◌≡◌, length, map}
use Rattle.hyd_spec.specs.ProgramTypes.{Project}
use Rattle.hyd_spec_certificates.specs.SpansAsIntervals.{levels_of}
use Rattle.hyd_spec_certificates.specs.RecordAndStanding.{initial_standing}
use Rattle.hyd_spec_certificates.specs.Decided.{links_at}
use Rattle.hyd_period_network.specs.NetsSetToPeriods.{IsNetOf}
use Rattle.hyd_period_facts.specs.declared.tanks_at_start.TankStart.{TankStart}
use Rattle.hyd_first_period.specs.declared.first_period.FirstPeriod.{FirstPeriod}

-- the levels and the states of tanks are those of the start of a run
pub record IsFirst (project : Project) (stocks : TankStart) : Type 0 where
  pub levels : map levels_of stocks.levels.list ≡ (initial_standing project).levels
  pub tanks : stocks.tanks.list ≡ (initial_standing project).tanks

-- the net is one of the network, and the stocks and the states of links are those of the start of its first period; the
-- net may be set to others
pub record IsReady (project : Project) (first : FirstPeriod) : Type 0 where
  pub of : IsNetOf project first.net
  pub stocks : IsFirst project first.stocks
  pub started : first.started.items ≡ links_at project (initial_standing project)
  pub each : length first.links.items ≡ length project.links.list
