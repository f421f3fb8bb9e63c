-- Rounding to binary numbers, by a number below and whether something was lost.
use Rattle.std.specs.Prelude.{◌≡◌, ℕ, ◌+◌, ◌*◌, ◌^◌, ◌<◌, ◌≤◌, ◌/◌, ◌%◌, nat_eq, Bool, true, false}
use borrow.Author.Differences.{up}
use Rattle.hyd_num.specs.declared.binary.Scaled.{Scaled}
use Rattle.hyd_num.specs.declared.pairs.Pair.{Pair}
use Rattle.hyd_num.specs.BinaryNumbers.{numerator, denominator}
use Rattle.hyd_num.specs.Pairs.{IsOwnPower}

-- p / q lies from s to below the next greater number, and at s exactly where nothing was lost
pub record IsCut (p q : ℕ) (s : Scaled) (exact : Bool) : Type 0 where
  pub at_most : numerator s * q ≤ p * denominator s
  pub below : p * denominator s < (s.mant + 1) * 2 ^ up s.exp * q
  pub whole : exact ≡ true → numerator s * q ≡ p * denominator s
  pub lost : exact ≡ false → numerator s * q < p * denominator s

-- t is one unit of the mantissa above s
pub record IsNext (s t : Scaled) : Type 0 where
  pub one_more : numerator t * denominator s ≡ (s.mant + 1) * 2 ^ up s.exp * denominator t

-- s has the first digits of n, but for k of them, which are 0 exactly where nothing was lost
pub record IsShortened (n k : ℕ) (s : Scaled) (exact : Bool) : Type 0 where
  pub digits : s.mant ≡ n / 2 ^ k
  pub rest : exact ≡ nat_eq (n % 2 ^ k) 0

-- the 100th power of s, rounded up on its way, is above the bound
pub record RootsOver (s bound : Scaled) : Type 0 where
  pub result : Pair
  pub made : IsOwnPower s 100 result
  pub over : numerator bound * denominator result.hi < numerator result.hi * denominator bound

-- the 100th power of s, rounded down on its way, is below the bound
pub record RootsUnder (s bound : Scaled) : Type 0 where
  pub result : Pair
  pub made : IsOwnPower s 100 result
  pub under : numerator result.lo * denominator bound < numerator bound * denominator result.lo
