-- The first second at which a watched level passes a test, among levels that are looked at one after another.
use Rattle.std.specs.Prelude.{◌≡◌, ℕ, ◌≤◌, ℤ, List, ◌⊎◌, Bool, false, IsTrue, Contains, slice_get}
use Rattle.std.specs.Option.{option_map_or}
use Rattle.hyd_spec.specs.ProgramTypes.{Project, Tank}
use Rattle.hyd_spec.specs.Tank.{Walls, walls_of}
use Rattle.hyd_spec_certificates.specs.Interval.{Interval}
use Rattle.hyd_spec_certificates.specs.PeriodNetwork.{Grid}
use Rattle.hyd_spec_certificates.specs.RecordAndStanding.{Record, Standing}
use Rattle.hyd_spec_certificates.specs.Stocks.{Stocks}
use Rattle.hyd_spec_certificates.specs.Decided.{Watch, stocks_of_tank, inflow_of_tank, RulesMatter}

-- A test of a tank's walls, the tank, its stocks and inflow, a target, its direction and a second, as `may_reach` and
-- `must_reach`.
abbrev pub ReachTest : Type 0
ReachTest = Walls → Tank → Stocks → Interval → ℤ → Bool → ℕ → Bool

-- Whether a watched level passes the test at a second; none that isn't there does.
abbrev pub watch_passes : ReachTest → Project → Grid → Standing → Record → Watch → ℕ → Bool
watch_passes test project grid standing row watch second =
    option_map_or (λ (tank : Tank). test (walls_of project tank) tank (stocks_of_tank standing watch.tank)
    (inflow_of_tank project grid row watch.tank) watch.target watch.rising second)
    (slice_get project.tanks.list watch.tank) false

-- The first second, at least 1, at which one of some watched levels passes the test, or the cap where none up to it
-- does.
pub record IsFirstAmong (test : ReachTest) (project : Project) (grid : Grid) (standing : Standing) (row : Record)
    (cap : ℕ)
    (watched : List Watch) (second : ℕ) : Type 0 where
  pub within : second ≤ cap
  pub reached : (second ≡ cap) ⊎ ((1 ≤ second) × ((watch : Watch)
      × (Contains watched watch × IsTrue (watch_passes test project grid standing row watch second))))
  pub none_before : (watch : Watch) → Contains watched watch → (s : ℕ) → 1 ≤ s
      → IsTrue (watch_passes test project grid standing row watch s) → second ≤ s

-- The rules matter at no instant before this many seconds after the start.
pub record IsWalked (project : Project) (grid : Grid) (standing : Standing) (row : Record) (current : ℕ) : Type 0 where
  pub none_before : (k : ℕ) → RulesMatter project grid standing row k → current ≤ k
