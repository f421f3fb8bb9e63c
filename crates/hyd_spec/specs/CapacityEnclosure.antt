-- What a capacity promises: it encloses the exact loss of the numbers from which it was made.
-- A capacity is the squared flow that one head tick drives, in squared flow ticks, between two ends.
-- Source: interval arithmetic with outward rounding (Moore 1966, Interval Analysis).
use Rattle.std.specs.Prelude.{ℕ, ◌+◌, ◌*◌, ◌^◌, ◌≤◌}
use Rattle.hyd_num.specs.BinaryNumbers.{numerator, denominator}
use Rattle.hyd_spec.specs.ProgramTypes.{Capacity}
use Rattle.hyd_spec.specs.Law.{loss_at_most, loss_at_least}

-- At every scale S (and also at 0, which is none), a flow q whose square is at most the lower end times the head y
-- loses at most y, and one whose square is at least the upper end times y loses at least y.
pub record IsEnclosure (capacity : Capacity) : Type 0 where
  pub at_most : (S q y : ℕ) → (q * q) * denominator capacity.lo ≤ numerator capacity.lo * (S * y)
      → loss_at_most capacity.origin S q y
  pub at_least : (S q y : ℕ) → numerator capacity.hi * (S * y) ≤ (q * q) * denominator capacity.hi
      → loss_at_least capacity.origin S q y

-- The two ends differ by at most the 2^40th part of the lower one.
abbrev pub IsSharp : Capacity → Type 0
IsSharp capacity =
    (numerator capacity.hi * denominator capacity.lo) * 2 ^ 40
    ≤ (numerator capacity.lo * denominator capacity.hi) * (2 ^ 40 + 1)
