-- Tidy standings: what every standing of a run keeps.
use Rattle.std.specs.Prelude.{◌≡◌, ℕ, ◌≤◌, length}
use Rattle.hyd_spec.specs.ProgramTypes.{Project}
use Rattle.hyd_spec.specs.NodeNumbers.{tank_count}
use Rattle.hyd_spec_certificates.specs.RecordAndStanding.{Standing}
use Rattle.hyd_spec_certificates.specs.Decided.{stocks_of_tank}
use Rattle.hyd_theorems_on_definitions.specs.LyingInIntervals.{HasStock}

-- What every standing of a run keeps besides: a level interval, a volume interval and a state for each tank, some
-- stock in each tank's intervals, and a time that isn't past the end of the run.
pub record IsTidy (project : Project) (standing : Standing) : Type 0 where
  pub levels_each : length standing.levels ≡ tank_count project
  pub volumes_each : length standing.volumes ≡ tank_count project
  pub tanks_each : length standing.tanks ≡ tank_count project
  pub ordered : (k : ℕ) → HasStock (stocks_of_tank standing k)
  pub in_time : standing.time ≤ project.times.duration
