-- Stock intervals: what a tank's level interval and volume interval become under an interval of inflow, and when the
-- tank reaches a target. Levels are in head ticks, volumes in volume ticks, inflows in flow ticks.
-- Source: EPANET 2.2 User Manual, chapter 3 (tanks; curves), over intervals.
use Rattle.std.specs.Prelude.{ℕ, ℤ, pos, ◌+ℤ◌, ◌-ℤ◌, Bool, true, false, List, Option, Some, None, if◌then◌else◌}
use Rattle.std.specs.Int.{int_max, int_min}
use Rattle.hyd_spec.specs.Scale.{missed_stock_ticks}
use Rattle.hyd_spec.specs.ProgramTypes.{Tank, VolumePoint}
use Rattle.hyd_spec.specs.declared.TankState.{TankState}
use Rattle.hyd_spec.specs.declared.TankState.TheVariants.{Full, Between, Empty}
use Rattle.hyd_num.specs.Rational.{Rational, floor, ceiling, whole}
use Rattle.hyd_spec_certificates.specs.Interval.{Interval, exactly}
use Rattle.hyd_spec.specs.Tank.{Stock, Walls, Cylinder, Curve, Bounds, level_bounds, content_bounds, exact_content}
use Rattle.hyd_spec.specs.Tank.{is_at_maximum, is_at_minimum, level_at, has_reached, tank_state}

-- A tank's stocks: an interval of its level and, where it has a volume curve, one of its volume (else 0 to 0).
pub record Stocks : Type 0 where
  pub level : Interval
  pub volume : Interval

-- The least of them, in level and volume.
abbrev pub least_stock : Stocks → Stock
least_stock stocks = record { level = stocks.level.lo; volume = stocks.volume.lo }

-- The greatest of them.
abbrev pub greatest_stock : Stocks → Stock
greatest_stock stocks = record { level = stocks.level.hi; volume = stocks.volume.hi }

-- ---- ends of intervals

-- An end that goes with a content x: the most of a range where x is at or above the most content, the least where it is
-- at or below the least, else `inside`.
abbrev pub end_of : Bounds → Bounds → Rational → ℤ → ℤ
end_of contents range x inside =
    if is_at_maximum 1 contents x then range.most
    else if is_at_minimum 1 contents x then range.least
    else inside

-- A lower end: a bound, or a value rounded down and moved down by the widening (ticks), but not below the range's
-- least.
abbrev pub lower_end : Bounds → Bounds → Rational → Rational → ℤ → ℤ
lower_end contents range x value widening = end_of contents range x (int_max range.least (floor value -ℤ widening))

-- An upper end: a bound, or a value rounded up and moved up by the widening, but not above the range's most.
abbrev pub upper_end : Bounds → Bounds → Rational → Rational → ℤ → ℤ
upper_end contents range x value widening = end_of contents range x (int_min range.most (ceiling value +ℤ widening))

-- The lower end of the levels that go with a content x of a tank.
abbrev pub lower_level : Walls → Tank → Rational → ℤ → ℤ
lower_level walls tank x widening =
    lower_end (content_bounds walls tank) (level_bounds tank) x (level_at 1 walls tank x) widening

-- The upper end of the levels that go with a content x.
abbrev pub upper_level : Walls → Tank → Rational → ℤ → ℤ
upper_level walls tank x widening =
    upper_end (content_bounds walls tank) (level_bounds tank) x (level_at 1 walls tank x) widening

-- ---- stocks after some seconds

-- The exact contents after some seconds, from the least stock and inflow and from the greatest.
abbrev pub exact_least : Walls → Stocks → Interval → ℕ → Rational
exact_least walls stocks inflow seconds = exact_content walls (least_stock stocks) inflow.lo seconds

abbrev pub exact_greatest : Walls → Stocks → Interval → ℕ → Rational
exact_greatest walls stocks inflow seconds = exact_content walls (greatest_stock stocks) inflow.hi seconds

-- The contents after some seconds, each end rounded outward, moved outward by the widening and held within its bounds.
abbrev pub contents_after : ℤ → Walls → Tank → Stocks → Interval → ℕ → Interval
contents_after widening walls tank stocks inflow seconds =
    let bounds = content_bounds walls tank in
    let least = exact_least walls stocks inflow seconds in
    let greatest = exact_greatest walls stocks inflow seconds in
    record {
      lo = lower_end bounds bounds least least widening;
      hi = upper_end bounds bounds greatest greatest widening;
    }

-- The interval of carried levels.
abbrev pub carried_levels : Walls → Tank → Stocks → Interval → ℕ → Interval
carried_levels walls tank stocks inflow seconds = record {
  lo = lower_level walls tank (exact_least walls stocks inflow seconds) (pos 0);
  hi = upper_level walls tank (exact_greatest walls stocks inflow seconds) (pos 0);
}

-- The carried stocks: carried levels and, with a curve, the volumes, rounded outward within their bounds.
abbrev pub carried_stocks : Walls → Tank → Stocks → Interval → ℕ → Stocks
carried_stocks (Cylinder area) tank stocks inflow seconds = record {
  level = carried_levels (Cylinder area) tank stocks inflow seconds;
  volume = exactly (pos 0);
}
carried_stocks (Curve points) tank stocks inflow seconds = record {
  level = carried_levels (Curve points) tank stocks inflow seconds;
  volume = contents_after (pos 0) (Curve points) tank stocks inflow seconds;
}

-- The levels that go with an interval of volumes: where an end of it is a bound, the bound of the level; any other end
-- is the level at it, rounded and then moved outward by ten ticks, but not beyond a bound.
abbrev pub levels_at : List VolumePoint → Tank → Interval → Interval
levels_at points tank volume = record {
  lo = lower_level (Curve points) tank (whole volume.lo) (pos missed_stock_ticks);
  hi = upper_level (Curve points) tank (whole volume.hi) (pos missed_stock_ticks);
}

-- The stocks with which the next period begins: each end of the content rounded and then moved outward by ten ticks,
-- but not beyond a bound; an end that is at or beyond a bound before that is the bound. With a curve the levels go with
-- the volumes.
abbrev pub next_stocks : Walls → Tank → Stocks → Interval → ℕ → Stocks
next_stocks (Cylinder area) tank stocks inflow seconds = record {
  level = contents_after (pos missed_stock_ticks) (Cylinder area) tank stocks inflow seconds;
  volume = exactly (pos 0);
}
next_stocks (Curve points) tank stocks inflow seconds =
    let volume = contents_after (pos missed_stock_ticks) (Curve points) tank stocks inflow seconds in
    record { level = levels_at points tank volume; volume = volume }

-- ---- states

-- The state that both ends of a level interval have, if they have the same.
abbrev pub shared_state : TankState → TankState → Option TankState
shared_state Full Full = Some Full
shared_state Between Between = Some Between
shared_state Empty Empty = Some Empty
shared_state a b = None

-- The state of a tank at a level interval, if it has one.
abbrev pub state_of : Tank → Interval → Option TankState
state_of tank level = shared_state (tank_state 1 tank level.lo) (tank_state 1 tank level.hi)

-- ---- reaching a target

-- At a second the stock that moves fastest toward the target has reached it: a rising one from the greatest stock and
-- inflow, a falling one from the least.
abbrev pub may_reach : Walls → Tank → Stocks → Interval → ℤ → Bool → ℕ → Bool
may_reach walls tank stocks inflow target true seconds =
    has_reached 1 walls tank (greatest_stock stocks) inflow.hi true target seconds
may_reach walls tank stocks inflow target false seconds =
    has_reached 1 walls tank (least_stock stocks) inflow.lo false target seconds

-- At a second the stock that moves slowest toward the target has reached it: a rising one from the least stock and
-- inflow, a falling one from the greatest.
abbrev pub must_reach : Walls → Tank → Stocks → Interval → ℤ → Bool → ℕ → Bool
must_reach walls tank stocks inflow target true seconds =
    has_reached 1 walls tank (least_stock stocks) inflow.lo true target seconds
must_reach walls tank stocks inflow target false seconds =
    has_reached 1 walls tank (greatest_stock stocks) inflow.hi false target seconds
