-- Goals of tanks with a volume curve.
use Rattle.std.proofs.Common.{◌≡◌, ℤ, pos, ◌-ℤ◌, ◌≤ℤ◌, Bool, List, refl, sym, ap, subst, arith}
use Rattle.std.specs.Int.{int_max, int_min}
use Rattle.std.proofs.lemmas.Int.{ints, clamps}
use Rattle.std.proofs.lemmas.Bool.{cond_both}
use Rattle.hyd_num.specs.Rational.{floor, ceiling}
use Rattle.hyd_net.specs.Curves.{value_at, volume_at, volume_knots}
use Rattle.hyd_net.specs.NumberRanges.{Lies}
use Rattle.hyd_spec.specs.ProgramTypes.{Tank, VolumePoint}
use Rattle.hyd_spec.specs.Tank.{Curve, content_bounds, is_bound}
use Rattle.hyd_spec_certificates.specs.Interval.{Interval, exactly}
use Rattle.hyd_spec_open_ends.specs.StocksOverLengths.{goal_volume}
use Rattle.hyd_tank.specs.StockIntervals.{IsBasin}
use Rattle.hyd_open_stocks.specs.declared.goals.Goal.{Goal}
use Rattle.hyd_open_stocks.specs.Goals.{IsGoal}
use Rattle.hyd_open_stocks.proofs.LevelsOnCurve.{volumes_in_order}

-- the least volume that meets a level within the bounds is within theirs, and the greatest isn't below them
pub record AreAmong (tank : Tank) (points : List VolumePoint) (x : Interval) : Type 0 where
  pub lo_above : volume_at points tank.minimum ≤ℤ x.lo
  pub lo_below : x.lo ≤ℤ volume_at points tank.maximum
  pub hi_above : volume_at points tank.minimum ≤ℤ x.hi

pub goals_among : (tank : Tank) (points : List VolumePoint) (rising : Bool) (target : ℤ) → IsBasin tank points
    → Lies tank.minimum tank.maximum target → AreAmong tank points (goal_volume points tank rising target)
goals_among tank points rising target basin lies =
    let curve = basin.shape.curve in
    let low = volumes_in_order points tank.minimum target curve lies.at_least in
    let high = volumes_in_order points target tank.maximum curve lies.at_most in
    cond_both (is_bound tank rising target) (exactly (volume_at points target))
    (let x : Interval = record {
      lo = floor (value_at 1 (volume_knots points) target);
      hi = ceiling (value_at 1 (volume_knots points) target);
    } in x) (AreAmong tank points)
    (λ e. record { lo_above = low.0; lo_below = high.0; hi_above = low.0 })
    (λ e. record { lo_above = low.0; lo_below = high.0; hi_above = low.1 })

pub curve_goal : (tank : Tank) (points : List VolumePoint) (rising : Bool) (target : ℤ) (goal : Goal)
    → IsBasin tank points → Lies tank.minimum tank.maximum target
    → goal.stock.level.lo ≡ target → goal.stock.level.hi ≡ target
    → goal.stock.volume.lo ≡ int_min (int_max (goal_volume points tank rising target).lo
    (volume_at points tank.minimum)) (volume_at points tank.maximum)
    → goal.stock.volume.hi ≡ int_min (int_max (goal_volume points tank rising target).hi
    (volume_at points tank.minimum)) (volume_at points tank.maximum)
    → goal.beyond ≡ (goal_volume points tank rising target).hi -ℤ goal.stock.volume.hi
    → IsGoal (Curve points) tank rising target goal
curve_goal tank points rising target goal basin lies at also lo hi over =
    let g = goals_among tank points rising target basin lies in
    let above = g.lo_above in
    let below = g.lo_below in
    let from = g.hi_above in
    let least = lies.at_least in
    let most = lies.at_most in
    record {
      within = record {
        level = record {
          lo_above = omega (arith, ints, at, least);
          lo_below = omega (arith, ints, at, most);
          hi_above = omega (arith, ints, also, least);
          hi_below = omega (arith, ints, also, most);
        };
        volume = record {
          lo_above = omega (arith, ints, clamps, lo, above, below);
          lo_below = omega (arith, ints, clamps, lo, above, below);
          hi_above = omega (arith, ints, clamps, hi, above, below, from);
          hi_below = omega (arith, ints, clamps, hi, above, below, from);
        };
      };
      contents = λ i. record { lo = lo i; hi = hi i };
      not_short = omega (arith, ints, clamps, hi, over, from);
      beyond = (omega (arith, ints, clamps, lo, above, below), over);
    }
