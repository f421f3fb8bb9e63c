-- Stocks and inflows that are kept of a period.
use Rattle.std.specs.Prelude.{◌≡◌, ℕ, ℤ, ◌≤◌, List, unsigned_abs}
use Rattle.hyd_spec.specs.ProgramTypes.{Project}
use Rattle.hyd_spec.specs.Lists.{Each}
use Rattle.hyd_spec.specs.Tank.{tank_inflow}
use Rattle.hyd_spec.specs.PeriodLength.{Period, stock_at_start}
use Rattle.hyd_stocks_at_scale.specs.declared.motions.Stock.{Stock}
use Rattle.hyd_stocks_at_scale.specs.Motions.{stock_of, inflow_limit}

-- an inflow of a tank by flows that are met
abbrev pub IsSmallInflow : ℤ → Type 0
IsSmallInflow inflow = unsigned_abs inflow ≤ inflow_limit

-- the stocks of tanks as a period begins, and what flows into them in it for so many seconds
pub record AreKept (project : Project) (before : Period) (seconds : ℕ) (stocks : List Stock)
    (inflows : List ℤ) : Type 0 where
  pub lasts : before.length ≡ seconds
  pub stock_each : Each stocks (λ k stock. stock_of stock ≡ stock_at_start before k)
  pub inflow_each : Each inflows (λ k inflow. inflow ≡ tank_inflow project k before.assignment.flows)
