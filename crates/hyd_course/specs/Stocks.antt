-- The stocks of tanks as a moment begins.
-- Source: this program's.
use Rattle.std.specs.Prelude.{◌≡◌, ◌≢◌, ℕ, ◌+◌, ◌≤◌, pos, slice_index_or, unsigned_abs}
use Rattle.hyd_spec.specs.ProgramTypes.{Project, Tank}
use Rattle.hyd_spec.specs.Lists.{Each}
use Rattle.hyd_spec.specs.Scale.{at_scale}
use Rattle.hyd_spec.specs.Tank.{Stock, walls_of, kept_volume, tank_inflow, IsNextStock}
use Rattle.hyd_spec.specs.PeriodLength.{Period, stock_at_start}
use Rattle.hyd_spec.specs.History.{AreNextStocks}
use Rattle.hyd_spec_witnesses.specs.MetPeriods.{Moment}
use Rattle.hyd_stocks_at_scale.specs.Motions.{content_limit}

-- the stock of a tank as a moment begins
abbrev pub stock_in : Moment → ℕ → Stock
stock_in moment k =
    record { level = slice_index_or moment.levels k (pos 0); volume = slice_index_or moment.volumes k (pos 0) }

-- a stock that a tank may have, at each scale
pub record IsSmall (stock : Stock) : Type 0 where
  pub level : unsigned_abs stock.level ≤ content_limit
  pub volume : unsigned_abs stock.volume ≤ content_limit

-- so is that of each tank
abbrev pub AreSmallStocks : Project → Moment → Type 0
AreSmallStocks project moment = Each project.tanks.list (λ k tank. IsSmall (stock_in moment k))

-- ---- the start of a run

-- the stock with which the file begins
abbrev pub initial_stock : Project → ℕ → Tank → Stock
initial_stock project S tank = record {
  level = at_scale S tank.initial;
  volume = at_scale S (kept_volume (walls_of project tank) tank.initial);
}

-- each tank has it
abbrev pub AreInitialStocks : Project → ℕ → Moment → Type 0
AreInitialStocks project S moment =
    Each project.tanks.list (λ k tank. stock_in moment k ≡ initial_stock project S tank)

-- a moment begins a run
pub record BeginsRun (project : Project) (S : ℕ) (moment : Moment) : Type 0 where
  pub at_time : moment.time ≡ 0
  pub stocks : AreInitialStocks project S moment

-- ---- a further period

-- the stock of a tank may follow a period
abbrev pub IsNext : Project → ℕ → Period → Moment → ℕ → Tank → Type 0
IsNext project S before moment k tank =
    IsNextStock S (walls_of project tank) tank (stock_at_start before k)
    (tank_inflow project k before.assignment.flows) before.length (stock_in moment k)

-- a moment begins where a period ends that isn't the last one of the run, with stocks that may follow
pub record Follows (project : Project) (S : ℕ) (before : Period) (moment : Moment) : Type 0 where
  pub not_last : before.time ≢ project.times.duration
  pub at_time : moment.time ≡ before.time + before.length
  pub stocks : AreNextStocks project S before moment.levels moment.volumes
