use Rattle.std.proofs.Common.{◌≡◌, ℕ, ◌^◌, ◌≤◌, false}
use Rattle.hyd_power_laws.specs.declared.flow_tests.FlowTest.{FlowTest}
use Rattle.hyd_power_laws.specs.Brackets.{holds_at}
use Rattle.hyd_power_laws.proofs.searches.bracket_downward.Given as goal

-- what the loop keeps: the test doesn't hold for the flow, and the next step isn't 0
pub record Downward (test : FlowTest) (beyond step : ℕ) : Type 0 where
  pub some : 1 ≤ beyond
  pub short : beyond ≤ 2 ^ 62
  pub fails : holds_at test beyond ≡ false
  pub moves : 1 ≤ step

abbrev pub invariant-loop-beyond : goal.invariant-loop-beyond
invariant-loop-beyond l = Downward l.test l.beyond l.step

abbrev pub decreases-loop-beyond : goal.decreases-loop-beyond
decreases-loop-beyond l = l.beyond
