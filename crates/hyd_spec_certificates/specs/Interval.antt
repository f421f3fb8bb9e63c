-- Intervals of whole numbers.
-- Source: Moore 1966, Interval Analysis.
use Rattle.std.specs.Prelude.{ℤ, ◌+ℤ◌, ◌-ℤ◌}

-- All numbers from lo to hi.
pub record Interval : Type 0 where
  pub lo : ℤ
  pub hi : ℤ

-- A single number.
abbrev pub exactly : ℤ → Interval
exactly z = record { lo = z; hi = z }

-- How far its ends are apart.
abbrev pub width : Interval → ℤ
width x = x.hi -ℤ x.lo

-- Both ends moved outward by so many ticks.
abbrev pub widened : ℤ → Interval → Interval
widened ticks x = record { lo = x.lo -ℤ ticks; hi = x.hi +ℤ ticks }

-- Both ends moved by the same amount.
abbrev pub shifted : ℤ → Interval → Interval
shifted by x = record { lo = x.lo +ℤ by; hi = x.hi +ℤ by }

-- The sum of a number of each.
abbrev pub sum_of : Interval → Interval → Interval
sum_of x y = record { lo = x.lo +ℤ y.lo; hi = x.hi +ℤ y.hi }
