-- The room for what a period begins with, and what no period begins with.
use Rattle.std.specs.Prelude.{◌≡◌, []}
use Rattle.hyd_spec.specs.ProgramTypes.{Project}
use Rattle.hyd_spec.specs.NodeNumbers.{tank_count}
use Rattle.hyd_period_facts.specs.ReservedMemory.{Takes}
use Rattle.hyd_period_facts.specs.declared.tanks_at_start.TankStart.{TankStart}

-- Nothing is known of the tanks.
pub record AreNone (next : TankStart) : Type 0 where
  pub levels : next.levels.list ≡ []
  pub volumes : next.volumes.list ≡ []
  pub tanks : next.tanks.list ≡ []

-- There is room for the levels, the volumes and the state of each tank.
pub record HasRoom (project : Project) (next : TankStart) : Type 0 where
  pub levels : Takes next.levels (tank_count project)
  pub volumes : Takes next.volumes (tank_count project)
  pub tanks : Takes next.tanks (tank_count project)
