-- The contents of a tank by their ends, each with the level that goes with it.
use Rattle.std.specs.Prelude.{◌≡◌, ℤ, pos, Bool, true, false, if◌then◌else◌}
use Rattle.std.specs.Int.{int_max, int_min}
use Rattle.hyd_num.specs.Rational.{whole}
use Rattle.hyd_spec.specs.ProgramTypes.{Tank}
use Rattle.hyd_spec.specs.Scale.{missed_stock_ticks}
use Rattle.hyd_spec.specs.Tank.{Walls, Cylinder, Curve, Bounds}
use Rattle.hyd_spec_certificates.specs.Interval.{Interval, exactly}
use Rattle.hyd_spec_certificates.specs.Stocks.{Stocks, lower_level, upper_level, levels_at}
use Rattle.hyd_spec_open_ends.specs.StocksOverLengths.{Arrival}
use Rattle.hyd_theorems_on_definitions.specs.LyingInIntervals.{IsWithin}
use Rattle.hyd_open_stocks.specs.declared.ends_of_contents.Contents.{Contents}
use Rattle.hyd_open_stocks.specs.declared.lengths_and_arrivals.Arrival.{Arrival as Here}

-- the arrival that one of the program stands for
abbrev pub arrival_of : Here → Arrival
arrival_of arrival =
    record { target = arrival.target; rising = arrival.rising; not_before = arrival.not_before }

abbrev pub contents_of : Contents → Interval
contents_of x = record { lo = x.lo.content; hi = x.hi.content }

-- their levels
abbrev pub levels_with : Contents → Interval
levels_with x = record { lo = x.lo.level; hi = x.hi.level }

-- each end has the level that goes with its content
pub record GoWith (lower upper : ℤ → ℤ) (x : Contents) : Type 0 where
  pub lo : x.lo.level ≡ lower x.lo.content
  pub hi : x.hi.level ≡ upper x.hi.content

-- contents and levels lie within bounds
pub record AreWithin (contents levels : Bounds) (x : Contents) : Type 0 where
  pub contents_lie : IsWithin contents (contents_of x)
  pub levels_lie : IsWithin levels (levels_with x)

-- the tank has a volume curve
abbrev pub is_curve : Walls → Bool
is_curve (Cylinder area) = false
is_curve (Curve points) = true

-- the levels that go with the least and the greatest content as the next period begins
abbrev pub lower_with : Walls → Tank → ℤ → ℤ
lower_with (Cylinder area) tank x = x
lower_with (Curve points) tank x = lower_level (Curve points) tank (whole x) (pos missed_stock_ticks)

abbrev pub upper_with : Walls → Tank → ℤ → ℤ
upper_with (Cylinder area) tank x = x
upper_with (Curve points) tank x = upper_level (Curve points) tank (whole x) (pos missed_stock_ticks)

-- the stocks of such contents
abbrev pub stocks_with : Walls → Tank → Interval → Stocks
stocks_with (Cylinder area) tank x = record { level = x; volume = exactly (pos 0) }
stocks_with (Curve points) tank x = record { level = levels_at points tank x; volume = x }

-- contents are these, with the levels that go with them
pub record AreOfStocks (walls : Walls) (tank : Tank) (x : Interval) (contents : Contents) : Type 0 where
  pub contents_are : contents_of contents ≡ x
  pub levels_go : GoWith (lower_with walls tank) (upper_with walls tank) contents

-- what is left of contents where a level has just been reached: at once, and a second later
abbrev pub cut_to : Arrival → Interval → Interval → Interval → Interval
cut_to arrival once later x =
    if arrival.rising then record {
      lo = int_max x.lo once.lo;
      hi = if arrival.not_before then int_min x.hi later.hi else x.hi;
    }
    else record {
      lo = if arrival.not_before then int_max x.lo later.lo else x.lo;
      hi = int_min x.hi once.hi;
    }
