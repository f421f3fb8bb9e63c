-- Two flows between which a test ends to hold.
use Rattle.std.specs.Prelude.{◌≡◌, ℕ, ◌+◌, ◌^◌, ◌<◌, ◌≤◌, Bool, true, false}
use Rattle.hyd_power_laws.specs.declared.flow_tests.FlowTest.{FlowTest}
use Rattle.hyd_power_laws.specs.FlowsWithin.{is_within}

-- the test holds for the flow q
abbrev pub holds_at : FlowTest → ℕ → Bool
holds_at t q = is_within t.end t.constant t.minor t.head q

-- it holds for the lesser flow, unless that is 0, and not for the greater one, unless that is above 2^62
pub record IsBracket (t : FlowTest) (within beyond : ℕ) : Type 0 where
  pub ordered : within < beyond
  pub most : beyond ≤ 2 ^ 62 + 1
  pub holds : 1 ≤ within → holds_at t within ≡ true
  pub fails : beyond ≤ 2 ^ 62 → holds_at t beyond ≡ false
