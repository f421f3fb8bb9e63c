-- A binary number m 2^e, read as a fraction of naturals, and rounding down and up to such numbers.
--     An exponent z is `up z` minus `down z`, one of which is 0: so the number is m 2^(up z) over 2^(down z).
use Rattle.std.specs.Prelude.{ℕ, ◌+◌, ◌*◌, ◌^◌, ◌≤◌}
use borrow.Author.Differences.{up, down}
use Rattle.hyd_num.specs.declared.binary.Scaled.{Scaled}
use Rattle.hyd_num.specs.Fraction.{Fraction, fraction}

-- what stands above the line
abbrev pub numerator : Scaled → ℕ
numerator s = s.mant * 2 ^ up s.exp

-- what stands below it
abbrev pub denominator : Scaled → ℕ
denominator s = 2 ^ down s.exp

-- the number as a fraction
abbrev pub as_fraction : Scaled → Fraction
as_fraction s = fraction (numerator s) (denominator s)

-- s is the greatest such number that is at most p / q
pub record IsDown (p q : ℕ) (s : Scaled) : Type 0 where
  pub at_most : numerator s * q ≤ p * denominator s
  pub greatest : (t : Scaled) → numerator t * q ≤ p * denominator t → numerator t * denominator s ≤ numerator s
      * denominator t

-- s is the least such number that is at least p / q
pub record IsUp (p q : ℕ) (s : Scaled) : Type 0 where
  pub at_least : p * denominator s ≤ numerator s * q
  pub least : (t : Scaled) → p * denominator t ≤ numerator t * q → numerator s * denominator t ≤ numerator t
      * denominator s

-- how far from 1 a number can lie: the magnitude of its exponent, and 64 for its mantissa and a rounding
abbrev pub reach : Scaled → ℕ
reach s = up s.exp + down s.exp + 64
