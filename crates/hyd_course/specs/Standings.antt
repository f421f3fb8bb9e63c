-- What a course of periods keeps of the last period that was met.
-- Source: this program's.
use Rattle.std.specs.Prelude.{◌≡◌, ℕ, ◌+◌, ◌≤◌, ℤ, Option, Some, None, length, unsigned_abs, IfSome}
use Rattle.std.specs.List.{All, AllZip}
use Rattle.hyd_spec.specs.ProgramTypes.{Project}
use Rattle.hyd_spec.specs.Lists.{Each}
use Rattle.hyd_spec.specs.NodeNumbers.{tank_count}
use Rattle.hyd_spec.specs.Tank.{tank_inflow}
use Rattle.hyd_spec.specs.PeriodLength.{Period, stock_at_start}
use Rattle.hyd_spec_witnesses.specs.MetPeriods.{Reached, commanded_at}
use Rattle.hyd_theorems_on_histories.specs.Agreement.{IsOwnState}
use Rattle.hyd_laws_at_scale.specs.Scales.{parts_of}
use Rattle.hyd_stocks_at_scale.specs.Motions.{stock_of, IsSmallStock, inflow_limit}
use Rattle.hyd_course.specs.declared.standing.Standing.{Standing}

-- ---- ranges

-- an inflow of a tank by flows that are met
abbrev pub IsSmallInflow : ℤ → Type 0
IsSmallInflow inflow = unsigned_abs inflow ≤ inflow_limit

-- what is kept is of a network: for each tank a stock and an inflow from which the next stock can be asked, a period
-- that ends by the end of the run, and for each link a state that it can have
pub record IsStanding (project : Project) (standing : Standing) : Type 0 where
  pub stock_each : length standing.stocks.items ≡ tank_count project
  pub inflow_each : length standing.inflows.items ≡ tank_count project
  pub stocks : All IsSmallStock standing.stocks.items
  pub inflows : All IsSmallInflow standing.inflows.items
  pub within : IfSome standing.last (λ last. last.time + last.length ≤ project.times.duration)
  pub states : AllZip (IsOwnState project) project.links.list standing.commanded.items

-- ---- where a course stands

-- a period is kept: when it began and how long it lasts, the stocks of tanks as it began, and what flows into them
pub record IsKept (project : Project) (before : Period) (standing : Standing) : Type 0 where
  pub last : standing.last ≡ Some (record { time = before.time; length = before.length })
  pub stocks : Each standing.stocks.items (λ k stock. stock_of stock ≡ stock_at_start before k)
  pub inflows : Each standing.inflows.items (λ k inflow. inflow ≡ tank_inflow project k before.assignment.flows)

-- the last period is kept, or there is none yet
abbrev pub HasLast : Project → Option Period → Standing → Type 0
HasLast project None standing = standing.last ≡ None
HasLast project (Some before) standing = IsKept project before standing

-- a course of periods at scale S stands so
pub record StandsAt (project : Project) (S : ℕ) (reached : Reached) (standing : Standing) : Type 0 where
  pub scale : parts_of standing.scale ≡ S
  pub count : standing.count ≡ reached.count
  pub last : HasLast project reached.last standing
  pub commanded : standing.commanded.items ≡ commanded_at project S reached.last
