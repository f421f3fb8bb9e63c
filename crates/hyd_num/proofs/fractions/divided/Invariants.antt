use Rattle.std.proofs.Common.{ℕ, ◌≡◌, ◌+◌, ◌*◌, ◌^◌, ◌<◌, ◌-◌}
use Rattle.hyd_num.proofs.fractions.divided.Given as goal

-- what the loop keeps: the digits so far
pub record Digits (p divisor mant rest digits : ℕ) : Type 0 where
  pub split : mant * divisor + rest ≡ p * 2 ^ digits
  pub small : rest < divisor
  pub short : mant < 2 ^ 63

abbrev pub invariant-loop-mant : goal.invariant-loop-mant
invariant-loop-mant l = Digits l.p l.divisor l.mant l.rest l.digits

abbrev pub decreases-loop-mant : goal.decreases-loop-mant
decreases-loop-mant l = 2 ^ 62 * l.divisor - (l.mant * l.divisor + l.rest)
