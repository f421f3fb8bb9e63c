-- Facts of a period that has started: what is known before its end is.
-- Source: this program's.
use Rattle.std.specs.Prelude.{◌≡◌, ℕ, Some, length, map, slice_get, slice_index_or, All}
use Rattle.hyd_spec.specs.ProgramTypes.{Project, Tank}
use Rattle.hyd_spec.specs.Lists.{map_from}
use Rattle.hyd_spec.specs.NodeNumbers.{tank_count}
use Rattle.hyd_spec.specs.Tank.{walls_of}
use Rattle.hyd_spec_certificates.specs.SpansAsIntervals.{levels_of, flows_of}
use Rattle.hyd_spec_certificates.specs.Interval.{Interval}
use Rattle.hyd_spec_certificates.specs.PeriodNetwork.{Grid}
use Rattle.hyd_spec_certificates.specs.RecordAndStanding.{Record, Standing}
use Rattle.hyd_spec_certificates.specs.Stocks.{Stocks}
use Rattle.hyd_spec_certificates.specs.Decided.{inflow_of_tank, links_at, nowhere}
use Rattle.hyd_tank.specs.StockIntervals.{IsInflow, AreHeld, volumes_of}
use Rattle.hyd_period_facts.specs.declared.facts.Facts.{Facts}

-- Facts hold what is known at a standing where a period starts, with the states of links after the controls of the
-- start, and what flows into each tank by the period's record.
pub record AreStarted (project : Project) (grid : Grid) (standing : Standing) (row : Record)
    (facts : Facts) : Type 0 where
  pub time : facts.time ≡ standing.time
  pub levels : map levels_of facts.levels.list ≡ standing.levels
  pub volumes : map volumes_of facts.volumes.list ≡ standing.volumes
  pub inflows : map flows_of facts.inflows.list
      ≡ map_from (λ k tank. inflow_of_tank project grid row k) 0 project.tanks.list
  pub tanks : facts.tanks.list ≡ standing.tanks
  pub links : facts.links.list ≡ links_at project standing

-- The stocks of tank number k at the start.
abbrev pub stocks_in : Facts → ℕ → Stocks
stocks_in facts k = record {
  level = slice_index_or (map levels_of facts.levels.list) k nowhere;
  volume = slice_index_or (map volumes_of facts.volumes.list) k nowhere;
}

-- The inflow of tank number k.
abbrev pub inflow_in : Facts → ℕ → Interval
inflow_in facts k = slice_index_or (map flows_of facts.inflows.list) k nowhere

-- They have stocks, an inflow and a state for each tank; the stocks lie within the tank's bounds, and the inflows
-- are in range.
pub record HaveTanks (project : Project) (facts : Facts) : Type 0 where
  pub levels : length facts.levels.list ≡ tank_count project
  pub volumes : length facts.volumes.list ≡ tank_count project
  pub inflows : length facts.inflows.list ≡ tank_count project
  pub tanks : length facts.tanks.list ≡ tank_count project
  pub held : (k : ℕ) (tank : Tank) → slice_get project.tanks.list k ≡ Some tank
      → AreHeld (walls_of project tank) tank (stocks_in facts k)
  pub small : All IsInflow facts.inflows.list
