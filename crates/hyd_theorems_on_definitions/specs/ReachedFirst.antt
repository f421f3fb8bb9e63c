-- The first second at which some watched level passes a test.
use Rattle.std.specs.Prelude.{Some, slice_get, Contains, ℕ, ◌≤◌, ℤ, ◌≡◌, Bool}
use Rattle.hyd_spec.specs.ProgramTypes.{Project, Tank}
use Rattle.hyd_spec_certificates.specs.Interval.{Interval}
use Rattle.hyd_spec.specs.Tank.{Walls, walls_of}
use Rattle.hyd_spec_certificates.specs.Stocks.{Stocks}
use Rattle.hyd_spec_certificates.specs.PeriodNetwork.{Grid}
use Rattle.hyd_spec_certificates.specs.RecordAndStanding.{Record, Standing}
use Rattle.hyd_spec_certificates.specs.FirstSeconds.{IsFirstSecond}
use Rattle.hyd_spec_certificates.specs.Decided.{Watch, watches, stocks_of_tank, inflow_of_tank}

-- Some watched level passes a test first at this second, up to a cap.
pub record SomeReachesFirst (test : Walls → Tank → Stocks → Interval → ℤ → Bool → ℕ → Bool) (project : Project)
    (grid : Grid)
    (standing : Standing) (row : Record) (cap second : ℕ) : Type 0 where
  pub watch : Watch
  pub is_watched : Contains (watches project standing) watch
  pub tank : Tank
  pub is_tank : slice_get project.tanks.list watch.tank ≡ Some tank
  pub is_first : IsFirstSecond (test (walls_of project tank) tank (stocks_of_tank standing watch.tank)
      (inflow_of_tank project grid row watch.tank) watch.target watch.rising) cap second

-- The second isn't after the cap, nor after the first second at which any watched level passes the test.
pub record NoneReachesBefore (test : Walls → Tank → Stocks → Interval → ℤ → Bool → ℕ → Bool) (project : Project)
    (grid : Grid)
    (standing : Standing) (row : Record) (cap second : ℕ) : Type 0 where
  pub by_clock : second ≤ cap
  pub each : (watch : Watch) → Contains (watches project standing) watch → (tank : Tank)
      → slice_get project.tanks.list watch.tank ≡ Some tank
      → (first : ℕ) × (IsFirstSecond (test (walls_of project tank) tank (stocks_of_tank standing watch.tank)
      (inflow_of_tank project grid row watch.tank) watch.target watch.rising) cap first × (second ≤ first))
