-- How long a period of a history lasts.
-- Source: EPANET 2.2 User Manual, chapter 3 (extended period simulation: when the next hydraulic time step ends).
use Rattle.std.specs.Prelude.{◌≡◌, ◌≢◌, ℕ, ◌+◌, ◌-◌, ◌%◌, ◌<◌, ◌≤◌, ℤ, pos, IsTrue, IsFalse, List, [], Some, slice_get}
use Rattle.std.specs.Prelude.{slice_index_or, map, Contains, unsigned_abs, Bool}
use Rattle.hyd_spec.specs.ProgramTypes.{Project, Tank, TankState, Full, Empty, Control, AtLevel, AtTime, AtClock}
use Rattle.hyd_spec.specs.ProgramTypes.{LinkState}
use Rattle.hyd_spec.specs.Lists.{map_from}
use Rattle.hyd_num.specs.Rational.{Rational, whole}
use Rattle.hyd_spec.specs.Assignment.{Assignment, node_heads}
use Rattle.hyd_spec.specs.Tank.{Stock, walls_of, content_bounds, exact_content, carried_level, watched_level}
use Rattle.hyd_spec.specs.Tank.{has_reached, reaches, is_at_maximum, is_at_minimum, tank_inflow}
use Rattle.hyd_spec.specs.PumpPatternsAndSimpleControls.{clock_at}
use Rattle.hyd_spec.specs.Rules.{Readings, rule_values, rule_changes}

-- A period of a history: when it begins, how long it lasts (seconds), and what holds throughout it. Levels and volumes
-- are those of its beginning, in S-th parts of a head tick and of a volume tick, for each tank.
pub record Period : Type 0 where
  pub time : ℕ
  pub length : ℕ
  pub levels : List ℤ
  pub volumes : List ℤ
  pub tanks : List TankState
  pub links : List LinkState
  pub assignment : Assignment

-- e is the least of the numbers that P holds of.
pub record IsLeast (P : ℕ → Type 0) (e : ℕ) : Type 0 where
  pub holds : P e
  pub least : (k : ℕ) → P k → e ≤ k

-- ---- by the clock

-- The clock ends a period that begins at `time` at e or before; e is one of these instants after its start: a hydraulic
-- step later, the end of the run, where a step of the patterns begins, a report time, or where a control acts by time
-- or clock.
pub data EndsByClock (project : Project) (time e : ℕ) : Type 0 where
  step : time < e → e ≡ time + project.times.hydraulic → EndsByClock project time e
  duration : time < e → e ≡ project.times.duration → EndsByClock project time e
  pattern : time < e → (e + project.times.pattern_start) % project.times.pattern ≡ 0 → EndsByClock project time e
  report : time < e → project.times.report_start ≤ e
      → (e - project.times.report_start) % project.times.report ≡ 0 → EndsByClock project time e
  control_time : (control : Control) → Contains project.controls.list control → control.when ≡ AtTime e
      → time < e → EndsByClock project time e
  control_clock : (control : Control) (at : ℕ) → Contains project.controls.list control → control.when ≡ AtClock at
      → clock_at project e ≡ at → time < e → EndsByClock project time e

-- ---- by levels

-- The level of a tank at the start (S-th parts of a head tick).
abbrev pub level_at_start : Period → ℕ → ℤ
level_at_start period k = slice_index_or period.levels k (pos 0)

-- The stock of a tank at the start.
abbrev pub stock_at_start : Period → ℕ → Stock
stock_at_start period k = record { level = level_at_start period k; volume = slice_index_or period.volumes k (pos 0) }

-- Its exact content some seconds after the start, by the period's flows.
abbrev pub exact_after : Project → Period → ℕ → Tank → ℕ → Rational
exact_after project period k tank seconds =
    exact_content (walls_of project tank) (stock_at_start period k) (tank_inflow project k period.assignment.flows)
    seconds

-- Its carried level then (S-th parts of a head tick).
abbrev pub carried_after : Project → ℕ → Period → ℕ → Tank → ℕ → Rational
carried_after project S period k tank seconds =
    carried_level S (walls_of project tank) tank (stock_at_start period k)
    (tank_inflow project k period.assignment.flows) seconds

-- The level then that the levels of controls are compared with (S-th parts of a head tick).
abbrev pub watched_after : Project → ℕ → Period → ℕ → Tank → ℕ → Rational
watched_after project S period k tank seconds =
    watched_level S (walls_of project tank) tank (stock_at_start period k)
    (tank_inflow project k period.assignment.flows) seconds

-- It has reached a target level (head ticks) then, from below or from above.
abbrev pub reached_after : Project → ℕ → Period → ℕ → Tank → Bool → ℤ → ℕ → Bool
reached_after project S period k tank above target seconds =
    has_reached S (walls_of project tank) tank (stock_at_start period k) (tank_inflow project k period.assignment.flows)
    above target seconds

-- The period may end `seconds` after its start: the exact content of a tank that wasn't full reaches that of its
-- maximum, of one that wasn't empty that of its minimum, or the level of a control that didn't hold at the start is
-- reached.
pub data EndsByLevel (project : Project) (S : ℕ) (period : Period) (seconds : ℕ) : Type 0 where
  full : (k : ℕ) (tank : Tank) → slice_get project.tanks.list k ≡ Some tank → slice_get period.tanks k ≢ Some Full
      → IsTrue (is_at_maximum S (content_bounds (walls_of project tank) tank)
      (exact_after project period k tank seconds))
      → EndsByLevel project S period seconds
  empty : (k : ℕ) (tank : Tank) → slice_get project.tanks.list k ≡ Some tank → slice_get period.tanks k ≢ Some Empty
      → IsTrue (is_at_minimum S (content_bounds (walls_of project tank) tank)
      (exact_after project period k tank seconds))
      → EndsByLevel project S period seconds
  control : (control : Control) (k : ℕ) (above : Bool) (ticks : ℤ) (tank : Tank)
      → Contains project.controls.list control → control.when ≡ AtLevel k above ticks
      → slice_get project.tanks.list k ≡ Some tank
      → IsFalse (reaches S above ticks (whole (level_at_start period k)))
      → IsTrue (reached_after project S period k tank above ticks seconds) → EndsByLevel project S period seconds

-- ---- by rules

-- What the rules look at `seconds` after the start of a period.
abbrev pub readings_after : Project → ℕ → Period → ℕ → Readings
readings_after project S period seconds = record {
  heads = node_heads project S period.time period.levels period.assignment.heads;
  levels = map_from (λ k tank. carried_after project S period k tank seconds) 0 project.tanks.list;
  flows = map unsigned_abs period.assignment.flows;
  links = period.links;
}

-- The values of the rules at an instant of a period.
abbrev pub values_at : Project → ℕ → Period → ℕ → List Bool
values_at project S period instant =
    rule_values project S instant (readings_after project S period (instant - period.time))

-- At the instant, a multiple of the rule step, the rules' actions change the state of a link.
pub record EndsByRules (project : Project) (S : ℕ) (period : Period) (instant : ℕ) : Type 0 where
  pub later : period.time < instant
  pub is_tried : instant % project.times.rule ≡ 0
  pub changes : rule_changes project (values_at project S period instant) period.links ≢ []

-- ---- the length

-- A period that doesn't begin at the end of the run may end at e.
pub data MayEnd (project : Project) (S : ℕ) (period : Period) (e : ℕ) : Type 0 where
  by_clock : EndsByClock project period.time e → MayEnd project S period e
  by_level : (seconds : ℕ) → 1 ≤ seconds → e ≡ period.time + seconds → EndsByLevel project S period seconds
      → MayEnd project S period e
  by_rules : EndsByRules project S period e → MayEnd project S period e

-- A period that begins at the end of the run has length 0; another one goes to the first instant at which it
-- may end.
pub data HasItsLength (project : Project) (S : ℕ) (period : Period) : Type 0 where
  at_end : period.time ≡ project.times.duration → period.length ≡ 0 → HasItsLength project S period
  before_end : period.time ≢ project.times.duration
      → IsLeast (MayEnd project S period) (period.time + period.length) → HasItsLength project S period
