-- Facts of a period that has begun, before its vectors are known.
-- Source: this program's.
use Rattle.std.specs.Prelude.{◌≡◌, ℕ, ◌≤◌, Some, length, map, slice_get}
use Rattle.hyd_spec.specs.ProgramTypes.{Project, Tank}
use Rattle.hyd_spec.specs.NodeNumbers.{tank_count}
use Rattle.hyd_spec.specs.Tank.{walls_of}
use Rattle.hyd_spec_certificates.specs.SpansAsIntervals.{levels_of}
use Rattle.hyd_spec_certificates.specs.RecordAndStanding.{Standing}
use Rattle.hyd_spec_certificates.specs.Decided.{links_at}
use Rattle.hyd_spec_certificates.specs.ChangesAtStart.{changes_at}
use Rattle.hyd_tank.specs.StockIntervals.{AreHeld, volumes_of}
use Rattle.hyd_period_facts.specs.ReservedMemory.{HasRoom}
use Rattle.hyd_period_facts.specs.declared.facts.Facts.{Facts}
use Rattle.hyd_period_facts.specs.FactsBeforeEnd.{stocks_in}

-- Facts hold what is known at a standing where a period begins, with the states of links after the controls of the
-- start and what these change.
pub record AreBegun (project : Project) (standing : Standing) (facts : Facts) : Type 0 where
  pub time : facts.time ≡ standing.time
  pub levels : map levels_of facts.levels.list ≡ standing.levels
  pub volumes : map volumes_of facts.volumes.list ≡ standing.volumes
  pub tanks : facts.tanks.list ≡ standing.tanks
  pub links : facts.links.list ≡ links_at project standing
  pub changes : facts.changes.list ≡ changes_at project standing

-- They have stocks and a state for each tank, the stocks within the tank's bounds, and a state for each link; no more
-- changed than there are controls, and there is room for what the period brings.
pub record AreReady (project : Project) (facts : Facts) : Type 0 where
  pub levels : length facts.levels.list ≡ tank_count project
  pub volumes : length facts.volumes.list ≡ tank_count project
  pub tanks : length facts.tanks.list ≡ tank_count project
  pub links : length facts.links.list ≡ length project.links.list
  pub held : (k : ℕ) (tank : Tank) → slice_get project.tanks.list k ≡ Some tank
      → AreHeld (walls_of project tank) tank (stocks_in facts k)
  pub changes : length facts.changes.list ≤ length project.controls.list
  pub room : HasRoom project facts
