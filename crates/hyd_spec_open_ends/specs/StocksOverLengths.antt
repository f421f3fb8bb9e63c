-- Stock intervals over lengths that are known to lie between two seconds. Levels are in head ticks, inflows in flow
-- ticks.
-- Source: EPANET 2.2 User Manual, chapter 3 (tanks), over intervals.
use Rattle.std.specs.Prelude.{ℕ, ℤ, pos, Bool, true, false, List, Option, fold, if◌then◌else◌, ◌&&◌, ◌==◌}
use Rattle.std.specs.Int.{int_max, int_min}
use Rattle.std.specs.Option.{option_map_or}
use Rattle.hyd_num.specs.Rational.{Rational, floor, ceiling}
use Rattle.hyd_net.specs.Curves.{value_at, volume_at, volume_knots}
use Rattle.hyd_spec.specs.Scale.{missed_stock_ticks}
use Rattle.hyd_spec.specs.ProgramTypes.{Tank, VolumePoint, Control, When, AtLevel}
use Rattle.hyd_spec.specs.Tank.{Walls, Cylinder, Curve, content_bounds, is_bound}
use Rattle.hyd_spec_certificates.specs.Interval.{Interval, exactly}
use Rattle.hyd_spec_certificates.specs.Stocks.{Stocks, exact_least, exact_greatest, lower_end, upper_end, lower_level}
use Rattle.hyd_spec_certificates.specs.Stocks.{upper_level, contents_after, carried_levels, levels_at}
use Rattle.hyd_spec_certificates.specs.ThreeValuedLogic.{is_yes}
use Rattle.hyd_spec_certificates.specs.Decided.{control_truth}

-- From the lesser of the least numbers of two intervals to the greater of the greatest.
abbrev pub hull : Interval → Interval → Interval
hull x y = record { lo = int_min x.lo y.lo; hi = int_max x.hi y.hi }

-- The contents after lengths from the shortest to the longest, each end rounded outward, moved outward by the widening
-- and held within its bounds. For each inflow a content moves one way, so it lies between those after both lengths.
abbrev pub contents_over : ℤ → Walls → Tank → Stocks → Interval → ℕ → ℕ → Interval
contents_over widening walls tank stocks inflow shortest longest =
    hull (contents_after widening walls tank stocks inflow shortest)
    (contents_after widening walls tank stocks inflow longest)

-- The carried levels over these lengths.
abbrev pub carried_levels_over : Walls → Tank → Stocks → Interval → ℕ → ℕ → Interval
carried_levels_over walls tank stocks inflow shortest longest =
    hull (carried_levels walls tank stocks inflow shortest) (carried_levels walls tank stocks inflow longest)

-- ---- what has just been reached

-- A level (head ticks) that has been reached at the end of a period, from below or from above; `not_before` says that
-- a second before it had not been.
pub record Arrival : Type 0 where
  pub target : ℤ
  pub rising : Bool
  pub not_before : Bool

-- The volume at which a tank with a volume curve has met a level, ABOVE or BELOW, outward to whole ticks: the volume
-- that is kept at the bound, where the level is the bound there, else that at the level on the curve.
abbrev pub goal_volume : List VolumePoint → Tank → Bool → ℤ → Interval
goal_volume points tank above target =
    if is_bound tank above target then exactly (volume_at points target)
    else let volume = value_at 1 (volume_knots points) target in
    record { lo = floor volume; hi = ceiling volume }

-- The stocks at which a tank has met a level: that level of a cylinder, that volume of a tank with a volume curve.
abbrev pub goal_stocks : Walls → Tank → Bool → ℤ → Stocks
goal_stocks (Cylinder area) tank above target = record { level = exactly target; volume = exactly (pos 0) }
goal_stocks (Curve points) tank above target =
    record { level = exactly target; volume = goal_volume points tank above target }

-- The least and the greatest content of some stocks, before anything flows in.
abbrev pub least_content : Walls → Stocks → Rational
least_content walls stocks = exact_least walls stocks (exactly (pos 0)) 0

abbrev pub greatest_content : Walls → Stocks → Rational
greatest_content walls stocks = exact_greatest walls stocks (exactly (pos 0)) 0

-- How the ends of an interval go with contents.
pub record Ends : Type 0 where
  pub lower : Rational → ℤ
  pub upper : Rational → ℤ

-- Ends of levels and of contents, rounded outward, moved outward by the widening and held within their bounds.
abbrev pub level_ends : ℤ → Walls → Tank → Ends
level_ends widening walls tank = record {
  lower = λ x. lower_level walls tank x widening;
  upper = λ x. upper_level walls tank x widening;
}

abbrev pub content_ends : ℤ → Walls → Tank → Ends
content_ends widening walls tank =
    let bounds = content_bounds walls tank in
    record { lower = λ x. lower_end bounds bounds x x widening; upper = λ x. upper_end bounds bounds x x widening }

-- What a level that has just been reached from below leaves of an interval: the content has come to the goal, and where
-- it had not a second before, it has passed the goal by one second of the greatest inflow at most.
abbrev pub cut_from_below : Ends → Walls → Stocks → Interval → Bool → Interval → Interval
cut_from_below ends walls goal inflow not_before x = record {
  lo = int_max x.lo (ends.lower (least_content walls goal));
  hi = if not_before then int_min x.hi (ends.upper (exact_greatest walls goal inflow 1)) else x.hi;
}

-- The same of a level that has just been reached from above, by the least inflow.
abbrev pub cut_from_above : Ends → Walls → Stocks → Interval → Bool → Interval → Interval
cut_from_above ends walls goal inflow not_before x = record {
  lo = if not_before then int_max x.lo (ends.lower (exact_least walls goal inflow 1)) else x.lo;
  hi = int_min x.hi (ends.upper (greatest_content walls goal));
}

-- What a level of the tank that has just been reached leaves of an interval with such ends.
abbrev pub cut_by : Ends → Walls → Tank → Interval → Arrival → Interval → Interval
cut_by ends walls tank inflow arrival x =
    let goal = goal_stocks walls tank arrival.rising arrival.target in
    if arrival.rising then cut_from_below ends walls goal inflow arrival.not_before x
    else cut_from_above ends walls goal inflow arrival.not_before x

-- The same where some level of the tank has just been reached.
abbrev pub cut_where_reached : Ends → Walls → Tank → Interval → Option Arrival → Interval → Interval
cut_where_reached ends walls tank inflow arrival x =
    option_map_or (λ reached. cut_by ends walls tank inflow reached x) arrival x

-- ---- stocks at the end

-- The carried levels at the end of a period of such lengths.
abbrev pub carried_at_end : Walls → Tank → Stocks → Interval → ℕ → ℕ → Option Arrival → Interval
carried_at_end walls tank stocks inflow shortest longest arrival =
    cut_where_reached (level_ends (pos 0) walls tank) walls tank inflow arrival
    (carried_levels_over walls tank stocks inflow shortest longest)

-- The contents with which the next period begins: as after one length, each end moved outward by ten ticks, but not
-- beyond a bound.
abbrev pub contents_at_end : Walls → Tank → Stocks → Interval → ℕ → ℕ → Option Arrival → Interval
contents_at_end walls tank stocks inflow shortest longest arrival =
    cut_where_reached (content_ends (pos missed_stock_ticks) walls tank) walls tank inflow arrival
    (contents_over (pos missed_stock_ticks) walls tank stocks inflow shortest longest)

-- The stocks with which it begins, before it is looked at what they keep. With a curve the levels go with the volumes.
abbrev pub stocks_at_end : Walls → Tank → Stocks → Interval → ℕ → ℕ → Option Arrival → Stocks
stocks_at_end (Cylinder area) tank stocks inflow shortest longest arrival = record {
  level = contents_at_end (Cylinder area) tank stocks inflow shortest longest arrival;
  volume = exactly (pos 0);
}
stocks_at_end (Curve points) tank stocks inflow shortest longest arrival =
    let volume = contents_at_end (Curve points) tank stocks inflow shortest longest arrival in
    record { level = levels_at points tank volume; volume = volume }

-- ---- levels that are kept

-- The part of a level interval on a control's side of its level: ABOVE from the level on, BELOW up to it.
abbrev pub on_side : Bool → ℤ → Interval → Interval
on_side true ticks levels = record { lo = int_max ticks levels.lo; hi = levels.hi }
on_side false ticks levels = record { lo = levels.lo; hi = int_min ticks levels.hi }

-- What a control that acts so leaves of the next levels of tank number k: where the whole interval of its carried
-- levels has met the level of a level control, the part on that control's side.
abbrev pub kept_when : ℕ → Interval → When → Interval → Interval
kept_when k carried (AtLevel tank above ticks) levels =
    if (tank == k) && is_yes (control_truth carried above ticks) then on_side above ticks levels else levels
kept_when k carried when levels = levels

-- What all controls leave of the next levels of tank number k, which keep what has been reached.
abbrev pub kept : List Control → ℕ → Interval → Interval → Interval
kept controls k carried levels =
    fold (λ (x : Interval) (control : Control). kept_when k carried control.when x) levels controls
