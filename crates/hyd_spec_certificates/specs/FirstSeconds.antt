-- The first second at which a tank may, or must, have reached a target level, up to a cap.
-- Source: EPANET 2.2 User Manual, chapter 3 (tanks: when one fills or empties), between two ends.
use Rattle.std.specs.Prelude.{◌≡◌, ℕ, ◌≤◌, ℤ, Bool, IsTrue, ◌⊎◌}
use Rattle.hyd_spec.specs.ProgramTypes.{Tank}
use Rattle.hyd_spec.specs.PeriodLength.{IsLeast}
use Rattle.hyd_spec_certificates.specs.Interval.{Interval}
use Rattle.hyd_spec.specs.Tank.{Walls}
use Rattle.hyd_spec_certificates.specs.Stocks.{Stocks, may_reach, must_reach}

-- The first whole second, at least 1, that passes a test, or the cap where none up to the cap does.
abbrev pub IsFirstSecond : (ℕ → Bool) → ℕ → ℕ → Type 0
IsFirstSecond test cap second = IsLeast (λ s. (s ≡ cap) ⊎ ((1 ≤ s) × IsTrue (test s))) second

-- The earliest: the stock that moves fastest toward the target has reached it.
abbrev pub IsEarliestSecond : Walls → Tank → Stocks → Interval → ℤ → Bool → ℕ → ℕ → Type 0
IsEarliestSecond walls tank stocks inflow target rising cap second =
    IsFirstSecond (may_reach walls tank stocks inflow target rising) cap second

-- The latest: the stock that moves slowest toward the target has reached it.
abbrev pub IsLatestSecond : Walls → Tank → Stocks → Interval → ℤ → Bool → ℕ → ℕ → Type 0
IsLatestSecond walls tank stocks inflow target rising cap second =
    IsFirstSecond (must_reach walls tank stocks inflow target rising) cap second
