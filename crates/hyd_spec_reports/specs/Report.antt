-- The report of a period: which lines it has and what numbers stand in them. A lower end is the
-- greatest number of four decimals at most the value, an upper end the least at least it.
-- Source: this program's format.
use Rattle.std.specs.Prelude.{◌≡◌, ℕ, suc, ◌+◌, ℤ, ◌-ℤ◌, List, [], ◌∷◌, ◌++◌, Some, map, slice_get, ⊤, MatchBool}
use Rattle.hyd_num.specs.PrintedDecimals.{head_quantity, pressure_quantity, flow_quantity}
use Rattle.hyd_spec.specs.ProgramTypes.{Project, Link, Tank}
use Rattle.hyd_spec.specs.declared.TankState.{TankState}
use Rattle.hyd_spec.specs.declared.Change.{Change}
use Rattle.hyd_spec_certificates.specs.declared.Event.{Event}
use Rattle.hyd_spec_certificates.specs.declared.EventKind.{EventKind}
use Rattle.hyd_spec_certificates.specs.declared.EventKind.TheVariants.{Full as BecomesFull, Empty as BecomesEmpty}
use Rattle.hyd_spec_certificates.specs.declared.EventKind.TheVariants.{Control as ReachesLevel}
use Rattle.hyd_spec_certificates.specs.Interval.{Interval, exactly, shifted}
use Rattle.hyd_spec.specs.DemandsHeadsAndPumpLifts.{is_us}
use Rattle.hyd_spec.specs.Assignment.{head_at}
use Rattle.hyd_spec.specs.Rules.{state_of_link}
use Rattle.hyd_spec_certificates.specs.PeriodNetwork.{Grid, GridLink, GridJunction}
use Rattle.hyd_spec_certificates.specs.FlowIntervals.{difference, out_box}
use Rattle.hyd_spec_certificates.specs.RecordAndStanding.{Record, Standing}
use Rattle.hyd_spec_certificates.specs.Decided.{heads_below, heads_above, flow_boxes, level_of_tank, inflow_of_tank}
use Rattle.hyd_spec_certificates.specs.Decided.{links_at}
use Rattle.hyd_spec_reports.specs.ReportLine.{ReportLine, TimeLine, JunctionLine, ReservoirLine, TankLine, LinkLine}
use Rattle.hyd_spec_reports.specs.ReportLine.{FilledLine, EmptiedLine, ReachedLine, ControlLine, RuleLine}
use Rattle.hyd_spec_certificates.specs.PrintedIntervals.{Prints, is_report_time}
use Rattle.hyd_spec_certificates.specs.StatusesOfLinks.{status_of}
use Rattle.hyd_spec_certificates.specs.EndsOfPeriods.{EndBrings}
use Rattle.hyd_spec.specs.declared.Source.{Source}
use Rattle.hyd_spec.specs.declared.Source.TheVariants.{Control as ByControl, Rule as ByRule}
use Rattle.hyd_spec_certificates.specs.ChangesAtStart.{changes_at}

-- ---- nodes and links at a report time

-- There is one line for each item of a list, in order: P holds of the item's number, the item and its line. The first
-- item has the number k.
abbrev pub LineEach : {X : Type 0} → (ℕ → X → ReportLine → Type 0) → ℕ → List X → List ReportLine → Type 0
LineEach P k [] [] = ⊤
LineEach P k (x ∷ xs) (l ∷ ls) = P k x l × LineEach P (suc k) xs ls
LineEach P k [] (l ∷ ls) = ⊥
LineEach P k (x ∷ xs) [] = ⊥

-- The line of junction number j: its head by the record, its pressure above the elevation, its outflow box.
pub record IsJunctionLine (project : Project) (grid : Grid) (row : Record) (j : ℕ) (junction : GridJunction)
    (each : ReportLine) : Type 0 where
  pub heads : Interval
  pub heads_are : heads ≡ record { lo = head_at row.main.lower j; hi = head_at row.main.upper j }
  pub head : Interval
  pub pressure : Interval
  pub outflow : Interval
  pub is_line : each ≡ JunctionLine j head pressure outflow
  pub head_is : Prints (head_quantity (is_us project)) heads head
  pub pressure_is : Prints (pressure_quantity (is_us project))
      (record { lo = heads.lo -ℤ junction.elevation; hi = heads.hi -ℤ junction.elevation }) pressure
  pub outflow_is : Prints (flow_quantity project.options.unit) (out_box junction heads.lo heads.hi) outflow

-- The line of reservoir number r: its head at the time.
pub record IsReservoirLine (project : Project) (r : ℕ) (height : ℤ) (each : ReportLine) : Type 0 where
  pub head : Interval
  pub is_line : each ≡ ReservoirLine r head
  pub head_is : Prints (head_quantity (is_us project)) (exactly height) head

-- The line of tank number k: its level interval at the start, its head by it, its inflow and its state.
pub record IsTankLine (project : Project) (grid : Grid) (standing : Standing) (row : Record) (k : ℕ) (tank : Tank)
    (each : ReportLine) : Type 0 where
  pub head : Interval
  pub level : Interval
  pub inflow : Interval
  pub state : TankState
  pub is_line : each ≡ TankLine k head level inflow state
  pub head_is : Prints (head_quantity (is_us project)) (shifted tank.bottom (level_of_tank standing k)) head
  pub level_is : Prints (head_quantity (is_us project)) (level_of_tank standing k) level
  pub inflow_is : Prints (flow_quantity project.options.unit) (inflow_of_tank project grid row k) inflow
  pub state_is : slice_get standing.tanks k ≡ Some state

-- The line of link number l: its flow box and its status word.
pub record IsLinkLine (project : Project) (grid : Grid) (standing : Standing) (row : Record) (l : ℕ) (link : Link)
    (each : ReportLine) : Type 0 where
  pub place : GridLink
  pub place_is : slice_get grid.links l ≡ Some place
  pub box : Interval
  pub box_is : slice_get (flow_boxes grid row) l ≡ Some box
  pub flow : Interval
  pub flow_is : Prints (flow_quantity project.options.unit) box flow
  pub is_line : each ≡ LinkLine l flow
      (status_of (is_us project) project.bends.list link.kind (state_of_link (links_at project standing) l)
      (difference place (heads_below grid row) (heads_above grid row)))

-- The lines of a report time: the time, junctions, reservoirs, tanks and links in order.
pub record AreStateLines (project : Project) (grid : Grid) (standing : Standing) (row : Record)
    (lines : List ReportLine) : Type 0 where
  pub junctions : List ReportLine
  pub reservoirs : List ReportLine
  pub tanks : List ReportLine
  pub links : List ReportLine
  pub junctions_are : LineEach (IsJunctionLine project grid row) 0 grid.junctions junctions
  pub reservoirs_are : LineEach (IsReservoirLine project) 0 grid.reservoirs reservoirs
  pub tanks_are : LineEach (IsTankLine project grid standing row) 0 project.tanks.list tanks
  pub links_are : LineEach (IsLinkLine project grid standing row) 0 project.links.list links
  pub lines_are : lines ≡ TimeLine standing.time ∷ (junctions ++ (reservoirs ++ (tanks ++ links)))

-- ---- events and rules at the end

-- The line of an event at a time.
abbrev pub event_line : ℕ → Event → ReportLine
event_line time event = by_kind event.what
  where
    by_kind : EventKind → ReportLine
    by_kind BecomesFull = FilledLine time event.tank
    by_kind BecomesEmpty = EmptiedLine time event.tank
    by_kind (ReachesLevel control) = ReachedLine time event.tank control

-- The line of a change at a time.
abbrev pub change_line : ℕ → Change → ReportLine
change_line time change = by_source change.source
  where
    by_source : Source → ReportLine
    by_source (ByControl number) = ControlLine time number change.link change.to
    by_source (ByRule rule) = RuleLine time rule change.link change.to

-- One line for each change by a control at the start of a period, in order of the controls.
abbrev pub control_lines : Project → Standing → List ReportLine
control_lines project standing = map (change_line standing.time) (changes_at project standing)

-- The lines of a period's end: one for each event, then one for each change by a rule, in order of the links.
pub record AreEndLines (project : Project) (grid : Grid) (standing : Standing) (row : Record)
    (lines : List ReportLine) : Type 0 where
  pub events : List Event
  pub changes : List Change
  pub brings : EndBrings project grid standing row events changes
  pub lines_are : lines ≡ map (event_line (standing.time + row.length)) events
      ++ map (change_line (standing.time + row.length)) changes

-- ---- a period's lines

-- The lines of a period: changes by controls, the state where it is a report time, then what its end brings.
pub record IsReport (project : Project) (grid : Grid) (standing : Standing) (row : Record)
    (lines : List ReportLine) : Type 0 where
  pub state : List ReportLine
  pub state_are : MatchBool (is_report_time project standing.time) (AreStateLines project grid standing row state)
      (state ≡ [])
  pub at_end : List ReportLine
  pub at_end_are : AreEndLines project grid standing row at_end
  pub lines_are : lines ≡ control_lines project standing ++ (state ++ at_end)
