use Rattle.std.proofs.Common.{ℕ, ◌≡◌, ◌+◌, ◌*◌, ◌^◌, ◌≤◌, ◌-◌, ℤ}
use borrow.Author.Differences.{up, down}
use Rattle.hyd_num.specs.declared.binary.Scaled.{Scaled}
use Rattle.hyd_num.specs.BinaryNumbers.{numerator, denominator}
use Rattle.hyd_num.specs.Pairs.{RootsAbove}
use Rattle.hyd_num.proofs.power_5_33.root_up.Given as goal

-- what the loop keeps: the upper number roots above the bound, and none does below the lower one
pub record Sought (bound high : Scaled) (exp : ℤ) (low end : ℕ) : Type 0 where
  pub least : 2 ^ 62 ≤ low
  pub in_order : low ≤ end
  pub short : end ≤ 2 ^ 63
  pub near : up high.exp + down exp ≤ up exp + down high.exp + 1
  pub far : up exp + down high.exp ≤ up high.exp + down exp
  pub value : numerator high * 2 ^ down exp ≡ end * 2 ^ up exp * denominator high
  pub above : RootsAbove high bound
  pub none : (t : Scaled) → RootsAbove t bound → low * 2 ^ up exp * denominator t ≤ numerator t * 2 ^ down exp

abbrev pub invariant-loop-low : goal.invariant-loop-low
invariant-loop-low l = Sought l.bound l.high l.exp l.low l.end

abbrev pub decreases-loop-low : goal.decreases-loop-low
decreases-loop-low l = l.end - l.low
