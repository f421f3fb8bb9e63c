-- What the end of a period brings.
-- Source: this program's.
use Rattle.std.specs.Prelude.{◌≡◌, ℕ, length, List, [], ◌++◌, map, Some, slice_get}
use Rattle.hyd_spec.specs.ProgramTypes.{Project, LinkState, Tank}
use Rattle.hyd_spec.specs.NodeNumbers.{tank_count}
use Rattle.hyd_spec.specs.Tank.{walls_of}
use Rattle.hyd_spec.specs.declared.Change.{Change}
use Rattle.hyd_spec_certificates.specs.SpansAsIntervals.{levels_of}
use Rattle.hyd_spec_certificates.specs.PeriodNetwork.{Grid}
use Rattle.hyd_spec_certificates.specs.RecordAndStanding.{Record, Standing}
use Rattle.hyd_spec_certificates.specs.Decided.{EndsBy, ByRules, WithoutRules, decided_changes}
use Rattle.hyd_spec_certificates.specs.Valid.{LeavesLinks, levels_next, volumes_next, AreStates, ControlsAreDecided}
use Rattle.hyd_tank.specs.StockIntervals.{AreHeld, volumes_of}
use Rattle.hyd_period_facts.specs.FactsOfPeriod.{AreFacts}
use Rattle.hyd_period_facts.specs.ReservedMemory.{Takes}
use Rattle.hyd_period_facts.specs.declared.facts.Facts.{Facts}
use Rattle.hyd_period_length.specs.ReservedMemory.{HasRoom as HasReadingsRoom}
use Rattle.hyd_period_facts.specs.TankStart.{stocks_among}
use Rattle.hyd_period_facts.specs.RoomForStocks.{HasRoom as HasNextRoom}
use Rattle.hyd_period_facts.specs.declared.tanks_at_start.TankStart.{TankStart}
use Rattle.hyd_period_end.specs.declared.period_end.PeriodEnd.{PeriodEnd}

-- there is room for each period of a network
pub record HasRoom (project : Project) (close : PeriodEnd) : Type 0 where
  pub readings : HasReadingsRoom project close.readings
  pub carried : Takes close.carried (tank_count project)
  pub values : length close.values.items ≡ length project.rules.list
  pub commanded : length close.commanded.items ≡ length project.links.list
  pub next : HasNextRoom project close.next

-- the stocks lie within the bounds of their tanks
abbrev pub AreKeptIn : Project → TankStart → Type 0
AreKeptIn project next = (k : ℕ) (tank : Tank) → slice_get project.tanks.list k ≡ Some tank
    → AreHeld (walls_of project tank) tank (stocks_among next.levels.list next.volumes.list k)

-- a period ends, decidedly, after so many seconds, and its rules change this
pub data EndsAfter (project : Project) (grid : Grid) (standing : Standing) (row : Record) (seconds : ℕ) : List Change
    → Type 0 where
  by_rules : EndsBy project grid standing row (ByRules seconds)
      → EndsAfter project grid standing row seconds (decided_changes project grid standing row seconds)
  by_clock : EndsBy project grid standing row (WithoutRules seconds) → EndsAfter project grid standing row seconds []

-- the vectors of a record decide that the period ends after so many seconds and leaves the links commanded so; what its
-- rules change stands behind the changes before
pub record Decides (project : Project) (grid : Grid) (standing : Standing) (row : Record) (seconds : ℕ)
    (links : List LinkState) (before after : List Change) : Type 0 where
  pub leaves : LeavesLinks project grid standing row seconds links
  pub by_rules : List Change
  pub ends : EndsAfter project grid standing row seconds by_rules
  pub changes_are : after ≡ before ++ by_rules

-- a period that begins at a standing is over: its length is the decided one, what follows it is decided, and the facts
-- are its own
pub record IsClosed (project : Project) (grid : Grid) (standing : Standing) (row : Record) (facts : Facts)
    (close : PeriodEnd) : Type 0 where
  pub leaves : LeavesLinks project grid standing row row.length close.commanded.items
  pub levels : map levels_of close.next.levels.list ≡ levels_next project grid standing row row.length
  pub volumes : map volumes_of close.next.volumes.list ≡ volumes_next project grid standing row row.length
  pub tanks : AreStates project (levels_next project grid standing row row.length) close.next.tanks.list
  pub controls : ControlsAreDecided project (levels_next project grid standing row row.length)
  pub facts_are : AreFacts project grid standing row facts
