-- What is looked at in a period before its end is known: what flows into tanks, and what rules read.
-- Source: this program's.
use Rattle.std.specs.Prelude.{◌≡◌, ℕ, length, map, All}
use Rattle.hyd_spec.specs.ProgramTypes.{Project}
use Rattle.hyd_spec.specs.Lists.{map_from}
use Rattle.hyd_spec.specs.NodeNumbers.{nodes_before_tanks}
use Rattle.hyd_spec_certificates.specs.SpansAsIntervals.{flows_of}
use Rattle.hyd_spec_certificates.specs.PeriodNetwork.{Grid}
use Rattle.hyd_spec_certificates.specs.RecordAndStanding.{Record}
use Rattle.hyd_spec_certificates.specs.Decided.{inflow_of_tank}
use Rattle.hyd_spec_open_ends.specs.OpenStandings.{OpenStanding, OpenRecord}
use Rattle.hyd_controls_and_rules.specs.RuleReadings.{IsBounded}
use Rattle.hyd_period_facts.specs.declared.facts.Facts.{Facts}
use Rattle.hyd_period_length.specs.declared.readings.Readings.{Readings}
use Rattle.hyd_period_length.specs.Readings.{AreRead}
use Rattle.hyd_period_end.specs.FactsBeforeVectors.{AreBegun}

-- Readings are of some period of a network: they have a head from below and one from above of each node but tanks, and
-- a flow of each link, in range.
pub record AreReadings (project : Project) (readings : Readings) : Type 0 where
  pub each_low : length readings.low.list ≡ nodes_before_tanks project
  pub each_high : length readings.high.list ≡ nodes_before_tanks project
  pub each_flow : length readings.flows.list ≡ length project.links.list
  pub bounded : All IsBounded readings.flows.list

-- What flows into tanks by the facts, and the readings, are those of a record on a grid.
pub record AreLookedAt (project : Project) (grid : Grid) (row : Record) (facts : Facts) (readings : Readings)
    : Type 0 where
  pub inflows : map flows_of facts.inflows.list
      ≡ map_from (λ k tank. inflow_of_tank project grid row k) 0 project.tanks.list
  pub read : AreRead grid row readings.low.list readings.high.list readings.flows.list

-- There are such a grid and such a record.
pub record AreOfSomeRecord (project : Project) (facts : Facts) (readings : Readings) : Type 0 where
  pub grid : Grid
  pub row : Record
  pub looked : AreLookedAt project grid row facts readings

-- Whatever grid and record facts and readings are of, this holds of them.
abbrev pub ForRecord : Project → Facts → Readings → (Grid → OpenRecord → Type 0) → Type 0
ForRecord project facts readings P = (grid : Grid) (found : OpenRecord)
    → AreLookedAt project grid found.row facts readings → P grid found

-- So it does whatever standing the facts begin at besides, whose start is open by so many seconds.
abbrev pub ForPeriod : Project → ℕ → Facts → Readings → (Grid → OpenStanding → OpenRecord → Type 0) → Type 0
ForPeriod project late facts readings P = (grid : Grid) (standing : OpenStanding) (found : OpenRecord)
    → standing.late ≡ late → AreBegun project standing.known facts
    → AreLookedAt project grid found.row facts readings → P grid standing found
