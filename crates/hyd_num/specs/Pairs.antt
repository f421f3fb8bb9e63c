-- Pairs of binary numbers that enclose a real number, and what their operations give: each lower end is the greatest
-- binary number at most the exact result of the ends that make it least, each upper end the least one at least the
-- exact greatest.
use Rattle.std.specs.Prelude.{◌≡◌, ℕ, ◌+◌, ◌*◌, ◌^◌, ◌≤◌}
use Rattle.hyd_num.specs.declared.binary.Scaled.{Scaled}
use Rattle.hyd_num.specs.declared.pairs.Pair.{Pair}
use Rattle.hyd_num.specs.Fraction.{Fraction, AtMost}
use Rattle.hyd_num.specs.BinaryNumbers.{numerator, denominator, as_fraction, IsDown, IsUp, reach}

-- x lies between the ends of r
pub record Encloses (r : Pair) (x : Fraction) : Type 0 where
  pub low : AtMost (as_fraction r.lo) x
  pub high : AtMost x (as_fraction r.hi)

-- r encloses p / q as tightly as can be
pub record IsRatio (p q : ℕ) (r : Pair) : Type 0 where
  pub low : IsDown p q r.lo
  pub high : IsUp p q r.hi

-- each end is the product of the two ends of its kind, rounded outward
pub record IsProduct (x y r : Pair) : Type 0 where
  pub low : IsDown (numerator x.lo * numerator y.lo) (denominator x.lo * denominator y.lo) r.lo
  pub high : IsUp (numerator x.hi * numerator y.hi) (denominator x.hi * denominator y.hi) r.hi

-- the lower end is the lower end of x divided by the upper end of y, the upper end the other way round
pub record IsQuotient (x y r : Pair) : Type 0 where
  pub low : IsDown (numerator x.lo * denominator y.hi) (denominator x.lo * numerator y.hi) r.lo
  pub high : IsUp (numerator x.hi * denominator y.lo) (denominator x.hi * numerator y.lo) r.hi

-- each end is the sum of the two ends of its kind, rounded outward
pub record IsSum (x y r : Pair) : Type 0 where
  pub low : IsDown (numerator x.lo * denominator y.lo + numerator y.lo * denominator x.lo)
      (denominator x.lo * denominator y.lo) r.lo
  pub high : IsUp (numerator x.hi * denominator y.hi + numerator y.hi * denominator x.hi)
      (denominator x.hi * denominator y.hi) r.hi

-- how far from 1 a pair can lie
abbrev pub pair_reach : Pair → ℕ
pair_reach x = reach x.lo + reach x.hi

-- r is the n-th power of x, by the binary digits of n: x for the first digit, and for each further one
-- a square that is multiplied by x where the digit is 1
pub data IsPower (x : Pair) : ℕ → Pair → Type 0 where
  once : IsPower x 1 x
  even : (n k : ℕ) (r s : Pair) → k ≡ 2 * n → IsPower x n r → IsProduct r r s → IsPower x k s
  odd : (n k : ℕ) (r s t : Pair) → k ≡ 2 * n + 1 → IsPower x n r → IsProduct r r s → IsProduct s x t → IsPower x k t

-- the powers of x up to the n-th keep their exponents near 0
abbrev pub StaysNear : Pair → ℕ → Type 0
StaysNear x n = (k : ℕ) (r : Pair) → k ≤ n → IsPower x k r → pair_reach r ≤ 2 ^ 22

-- r is the power of a pair whose two ends are s
pub record IsOwnPower (s : Scaled) (n : ℕ) (r : Pair) : Type 0 where
  pub base : Pair
  pub low : base.lo ≡ s
  pub high : base.hi ≡ s
  pub made : IsPower base n r

-- the 100th power of s, rounded up on its way, is at most the bound
pub record RootsBelow (s bound : Scaled) : Type 0 where
  pub result : Pair
  pub made : IsOwnPower s 100 result
  pub at_most : numerator result.hi * denominator bound ≤ numerator bound * denominator result.hi

-- the 100th power of s, rounded down on its way, is at least the bound
pub record RootsAbove (s bound : Scaled) : Type 0 where
  pub result : Pair
  pub made : IsOwnPower s 100 result
  pub at_least : numerator bound * denominator result.lo ≤ numerator result.lo * denominator bound

-- s is the greatest number that roots below the bound
pub record IsRootDown (bound s : Scaled) : Type 0 where
  pub below : RootsBelow s bound
  pub greatest : (t : Scaled) → RootsBelow t bound → numerator t * denominator s ≤ numerator s * denominator t

-- s is the least number that roots above the bound
pub record IsRootUp (bound s : Scaled) : Type 0 where
  pub above : RootsAbove s bound
  pub least : (t : Scaled) → RootsAbove t bound → numerator s * denominator t ≤ numerator t * denominator s

-- r encloses d to the power 5.33: the 533rd power first, then its 100th root
pub record IsRoot533 (d r : Pair) : Type 0 where
  pub raised : Pair
  pub made : IsPower d 533 raised
  pub low : IsRootDown raised.lo r.lo
  pub high : IsRootUp raised.hi r.hi
