-- What a line of the report claims of a period of a history.
-- Source: this program's; the quantities are those that EPANET prints (2.2 User Manual, chapter on viewing results).
use Rattle.std.specs.Prelude.{◌≡◌, ℕ, ◌+◌, ℤ, ◌+ℤ◌, ◌-ℤ◌, IsTrue, Bool, true, false, List, Some, slice_get, Contains}
use Rattle.std.specs.Prelude.{◌≢◌, ◌%◌, IsFalse}
use Rattle.hyd_num.specs.Rational.{whole}
use Rattle.hyd_spec.specs.ProgramTypes.{Project, Junction, Reservoir, Tank, Link, LinkState, Control, AtLevel}
use Rattle.hyd_spec.specs.declared.TankState.{TankState}
use Rattle.hyd_spec.specs.declared.TankState.TheVariants.{Full, Empty}
use Rattle.hyd_spec.specs.declared.Change.{Change}
use Rattle.hyd_spec.specs.declared.Source.TheVariants.{Control as ByControl, Rule as ByRule}
use Rattle.hyd_spec_certificates.specs.declared.StatusWord.{StatusWord}
use Rattle.hyd_spec_certificates.specs.Interval.{Interval}
use Rattle.hyd_spec.specs.Scale.{at_scale}
use Rattle.hyd_spec.specs.DemandsHeadsAndPumpLifts.{is_us, reservoir_head}
use Rattle.hyd_spec.specs.Assignment.{node_heads, head_at, flow_at}
use Rattle.hyd_spec.specs.Tank.{tank_inflow, reaches}
use Rattle.hyd_spec.specs.PumpPatternsAndSimpleControls.{acts_at}
use Rattle.hyd_spec.specs.Rules.{rule_changes}
use Rattle.hyd_spec.specs.PeriodLength.{Period, level_at_start, watched_after, values_at}
use Rattle.hyd_spec_certificates.specs.ChangesAtStart.{start_changes}
use Rattle.hyd_spec_reports.specs.ReportLine.{ReportLine, ControlLine, TimeLine, JunctionLine, ReservoirLine, TankLine}
use Rattle.hyd_spec_reports.specs.ReportLine.{LinkLine, FilledLine, EmptiedLine, ReachedLine, RuleLine}
use Rattle.hyd_spec_certificates.specs.PrintedIntervals.{HeadLies, PressureLies, FlowLies}
use Rattle.hyd_spec_certificates.specs.StatusesOfLinks.{StatusHolds}

-- ---- nodes

-- Junction number j: its head, its pressure and its outflow (demand and emitter together) lie between the printed
-- ends.
pub record JunctionLies (project : Project) (S : ℕ) (period : Period) (j : ℕ)
    (head pressure outflow : Interval) : Type 0 where
  pub junction : Junction
  pub is_junction : slice_get project.junctions.list j ≡ Some junction
  pub head_lies : HeadLies project S head (head_at period.assignment.heads j)
  pub pressure_lies : PressureLies project S pressure (head_at period.assignment.heads j
      -ℤ at_scale S junction.elevation)
  pub outflow_lies : FlowLies project S outflow (flow_at period.assignment.demands j
      +ℤ flow_at period.assignment.emitters j)

-- Reservoir number r: its head at the start of the period lies between the printed ends.
pub record ReservoirLies (project : Project) (S : ℕ) (period : Period) (r : ℕ) (head : Interval) : Type 0 where
  pub reservoir : Reservoir
  pub is_reservoir : slice_get project.reservoirs.list r ≡ Some reservoir
  pub head_lies : HeadLies project S head (at_scale S (reservoir_head project period.time reservoir))

-- Tank number k: its head, its level and its inflow lie between the printed ends, and its state is the printed one.
pub record TankLies (project : Project) (S : ℕ) (period : Period) (k : ℕ) (head level inflow : Interval)
    (state : TankState) : Type 0 where
  pub tank : Tank
  pub is_tank : slice_get project.tanks.list k ≡ Some tank
  pub head_lies : HeadLies project S head (at_scale S tank.bottom +ℤ level_at_start period k)
  pub level_lies : HeadLies project S level (level_at_start period k)
  pub inflow_lies : FlowLies project S inflow (tank_inflow project k period.assignment.flows)
  pub state_is : slice_get period.tanks k ≡ Some state

-- ---- links

-- The head difference along a link.
abbrev pub difference_along : Project → ℕ → Period → Link → ℤ
difference_along project S period link =
    let heads = node_heads project S period.time period.levels period.assignment.heads in
    head_at heads link.from -ℤ head_at heads link.to

-- Link number l: its flow lies between the printed ends, and its status word holds.
pub record LinkLies (project : Project) (S : ℕ) (period : Period) (l : ℕ) (flow : Interval) (word : StatusWord) : Type
    0 where
  pub link : Link
  pub is_link : slice_get project.links.list l ≡ Some link
  pub state : LinkState
  pub is_state : slice_get period.links l ≡ Some state
  pub flow_lies : FlowLies project S flow (flow_at period.assignment.flows l)
  pub status_holds : StatusHolds (is_us project) project.bends.list word link.kind state S
      (difference_along project S period link)

-- ---- events, controls, rules

-- At the second of the period's end the tank's level, the exact one of a cylinder and the carried one of a tank with a
-- curve, is at or beyond a target.
pub record ReachesAtEnd (project : Project) (S : ℕ) (period : Period) (time k : ℕ) (above : Bool) (target : ℤ) : Type
    0 where
  pub at_end : time ≡ period.time + period.length
  pub tank : Tank
  pub is_tank : slice_get project.tanks.list k ≡ Some tank
  pub reached : IsTrue (reaches S above target (watched_after project S period k tank period.length))

-- The tank, which wasn't full at the start, reaches its maximum.
pub record Fills (project : Project) (S : ℕ) (period : Period) (time k : ℕ) : Type 0 where
  pub tank : Tank
  pub is_tank : slice_get project.tanks.list k ≡ Some tank
  pub before : slice_get period.tanks k ≢ Some Full
  pub reaches_it : ReachesAtEnd project S period time k true tank.maximum

-- The tank, which wasn't empty at the start, reaches its minimum.
pub record Empties (project : Project) (S : ℕ) (period : Period) (time k : ℕ) : Type 0 where
  pub tank : Tank
  pub is_tank : slice_get project.tanks.list k ≡ Some tank
  pub before : slice_get period.tanks k ≢ Some Empty
  pub reaches_it : ReachesAtEnd project S period time k false tank.minimum

-- The tank reaches the level of a control, which didn't hold at the start.
pub record ReachesControl (project : Project) (S : ℕ) (period : Period) (time k number : ℕ) : Type 0 where
  pub control : Control
  pub is_control : slice_get project.controls.list number ≡ Some control
  pub above : Bool
  pub ticks : ℤ
  pub is_level : control.when ≡ AtLevel k above ticks
  pub before : IsFalse (reaches S above ticks (whole (level_at_start period k)))
  pub reaches_it : ReachesAtEnd project S period time k above ticks

-- At the start of the period, from the states commanded before, the control changes the link to the state.
pub record IsStartChange (project : Project) (S : ℕ) (commanded : List LinkState) (period : Period) (time : ℕ)
    (change : Change) : Type 0 where
  pub at_start : time ≡ period.time
  pub is_change : Contains (start_changes project period.time (acts_at S period.levels) commanded) change

-- At the end of the period, an instant at which the rules are tried, the rule changes the link to the state.
pub record IsEndChange (project : Project) (S : ℕ) (period : Period) (time : ℕ) (change : Change) : Type 0 where
  pub at_end : time ≡ period.time + period.length
  pub is_tried : time % project.times.rule ≡ 0
  pub is_change : Contains (rule_changes project (values_at project S period time) period.links) change

-- ---- a line

-- The line holds of a period of a history at scale S, before which the links were commanded so.
abbrev pub LineHolds : Project → ℕ → List LinkState → Period → ReportLine → Type 0
LineHolds project S commanded period (ControlLine time number link state) =
    IsStartChange project S commanded period time (record { source = ByControl number; link = link; to = state })
LineHolds project S commanded period (TimeLine time) = period.time ≡ time
LineHolds project S commanded period (JunctionLine j head pressure outflow) = JunctionLies project S period j head
    pressure outflow
LineHolds project S commanded period (ReservoirLine r head) = ReservoirLies project S period r head
LineHolds project S commanded period (TankLine k head level inflow state) = TankLies project S period k head level
    inflow state
LineHolds project S commanded period (LinkLine l flow word) = LinkLies project S period l flow word
LineHolds project S commanded period (FilledLine time k) = Fills project S period time k
LineHolds project S commanded period (EmptiedLine time k) = Empties project S period time k
LineHolds project S commanded period (ReachedLine time k number) = ReachesControl project S period time k number
LineHolds project S commanded period (RuleLine time rule link state) =
    IsEndChange project S period time (record { source = ByRule rule; link = link; to = state })
