use Rattle.std.proofs.Common.{◌≡◌, ℕ, ◌+◌, ◌*◌, ◌≤◌, Bool, List, length, drop}
use Rattle.hyd_spec_power_laws.specs.declared.cut_numbers.CutNumber.{CutNumber}
use Rattle.hyd_spec_power_laws.specs.CutPowers.{IsNormal, cut_power, exponent}
use Rattle.hyd_power_laws.proofs.cut_powers.power.Given as goal

-- what the loop keeps: the power by the digits from a place on
pub record Powered (x : CutNumber) (digits : List Bool) (power : CutNumber) (place : ℕ) : Type 0 where
  pub within : place ≤ length digits
  pub value : power ≡ cut_power x (drop place digits)
  pub normal : IsNormal power
  pub near : power.exp + 63 ≤ exponent (drop place digits) * (x.exp + 63)

abbrev pub invariant-loop-place : goal.invariant-loop-place
invariant-loop-place l = Powered l.x l.digits l.power l.place

abbrev pub decreases-loop-place : goal.decreases-loop-place
decreases-loop-place l = l.place
