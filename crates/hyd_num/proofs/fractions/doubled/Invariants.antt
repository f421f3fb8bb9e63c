use Rattle.std.proofs.Common.{ℕ, ◌≡◌, ◌*◌, ◌^◌, ◌<◌, ◌≤◌, ◌-◌}
use Rattle.hyd_num.proofs.fractions.doubled.Given as goal

-- what the loop keeps: how often the divisor was doubled
pub record Doubling (q value doublings : ℕ) : Type 0 where
  pub value_is : value ≡ q * 2 ^ doublings
  pub short : value < 2 ^ 101
  pub positive : 1 ≤ value

abbrev pub invariant-loop-value : goal.invariant-loop-value
invariant-loop-value l = Doubling l.q l.value l.doublings

abbrev pub decreases-loop-value : goal.decreases-loop-value
decreases-loop-value l = 2 ^ 101 - l.value
