-- When facts are those of a period.
-- Source: this program's.
use Rattle.std.specs.Prelude.{◌≡◌, List, ◌++◌, map}
use Rattle.hyd_spec.specs.ProgramTypes.{Project}
use Rattle.hyd_spec.specs.Lists.{map_from}
use Rattle.hyd_spec.specs.declared.Change.{Change}
use Rattle.hyd_spec_certificates.specs.SpansAsIntervals.{levels_of, flows_of}
use Rattle.hyd_spec_certificates.specs.PeriodNetwork.{Grid}
use Rattle.hyd_spec_certificates.specs.RecordAndStanding.{Record, Standing}
use Rattle.hyd_spec_certificates.specs.Decided.{inflow_of_tank, links_at}
use Rattle.hyd_spec_certificates.specs.EndsOfPeriods.{EndBrings}
use Rattle.hyd_spec_certificates.specs.ChangesAtStart.{changes_at}
use Rattle.hyd_tank.specs.StockIntervals.{volumes_of}
use Rattle.hyd_period_facts.specs.declared.facts.Facts.{Facts}

-- The facts are those of the period of a record that begins at a standing: its time and length, the stocks and the
-- states of its
-- tanks at the start, their inflows by the record, the states of links after the controls of the start, what these
-- controls change
-- there and then what its end brings.
pub record AreFacts (project : Project) (grid : Grid) (standing : Standing) (row : Record)
    (facts : Facts) : Type 0 where
  pub time : facts.time ≡ standing.time
  pub length : facts.length ≡ row.length
  pub levels : map levels_of facts.levels.list ≡ standing.levels
  pub volumes : map volumes_of facts.volumes.list ≡ standing.volumes
  pub inflows : map flows_of facts.inflows.list
      ≡ map_from (λ k tank. inflow_of_tank project grid row k) 0 project.tanks.list
  pub tanks : facts.tanks.list ≡ standing.tanks
  pub links : facts.links.list ≡ links_at project standing
  -- the changes by rules at the end
  pub by_rules : List Change
  pub changes : facts.changes.list ≡ changes_at project standing ++ by_rules
  pub brings : EndBrings project grid standing row facts.events.list by_rules
