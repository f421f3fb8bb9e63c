use Rattle.std.proofs.Common.{◌≡◌, ℕ, ◌-◌, ◌^◌, ◌≤◌, true}
use Rattle.hyd_power_laws.specs.declared.flow_tests.FlowTest.{FlowTest}
use Rattle.hyd_power_laws.specs.Brackets.{holds_at}
use Rattle.hyd_power_laws.proofs.searches.bracket_upward.Given as goal

-- what the loop keeps: the test holds for the flow, and the next step isn't 0
pub record Upward (test : FlowTest) (within step : ℕ) : Type 0 where
  pub some : 1 ≤ within
  pub short : within ≤ 2 ^ 62
  pub holds : holds_at test within ≡ true
  pub moves : 1 ≤ step

abbrev pub invariant-loop-within : goal.invariant-loop-within
invariant-loop-within l = Upward l.test l.within l.step

abbrev pub decreases-loop-within : goal.decreases-loop-within
decreases-loop-within l = 2 ^ 62 - l.within
