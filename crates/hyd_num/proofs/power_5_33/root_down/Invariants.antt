use Rattle.std.proofs.Common.{ℕ, ◌≡◌, ◌*◌, ◌^◌, ◌<◌, ◌≤◌, ◌-◌, ℤ}
use borrow.Author.Differences.{up, down}
use Rattle.hyd_num.specs.declared.binary.Scaled.{Scaled}
use Rattle.hyd_num.specs.BinaryNumbers.{numerator, denominator}
use Rattle.hyd_num.specs.Pairs.{RootsBelow}
use Rattle.hyd_num.proofs.power_5_33.root_down.Given as goal

-- what the loop keeps: the lower number roots below the bound, and none does from the upper one on
pub record Found (bound low : Scaled) (exp : ℤ) (high : ℕ) : Type 0 where
  pub exponent : low.exp ≡ exp
  pub in_order : low.mant < high
  pub short : high ≤ 2 ^ 63
  pub below : RootsBelow low bound
  pub none : (t : Scaled) → RootsBelow t bound → numerator t * 2 ^ down exp < high * 2 ^ up exp * denominator t

abbrev pub invariant-loop-high : goal.invariant-loop-high
invariant-loop-high l = Found l.bound l.low l.exp l.high

abbrev pub decreases-loop-high : goal.decreases-loop-high
decreases-loop-high l = l.high - l.low.mant
