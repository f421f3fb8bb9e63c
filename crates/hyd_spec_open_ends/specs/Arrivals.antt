-- Which level has just been reached at the end of a period that ends by what is watched.
-- Source: this program's.
use Rattle.std.specs.Prelude.{◌≡◌, ℕ, ◌<◌, ◌≤◌, ◌==◌, ℤ, ◌≤ℤ◌, Bool, true, false, IsTrue, Option, Some, None, slice_get}
use Rattle.std.specs.Prelude.{Contains, nat_le, if◌then◌else◌}
use Rattle.hyd_spec.specs.ProgramTypes.{Project, Tank}
use Rattle.hyd_spec.specs.Tank.{walls_of}
use Rattle.hyd_spec_certificates.specs.PeriodNetwork.{Grid}
use Rattle.hyd_spec_certificates.specs.RecordAndStanding.{Record, Standing}
use Rattle.hyd_spec_certificates.specs.Stocks.{may_reach}
use Rattle.hyd_spec_certificates.specs.Decided.{Watch, watches, stocks_of_tank, inflow_of_tank}
use Rattle.hyd_spec_open_ends.specs.StocksOverLengths.{Arrival}
use Rattle.hyd_spec_open_ends.specs.OpenEnds.{Way, ByRules, ByInstant, ByWatched}

-- A watched level may have reached its target some time up to a second after the start.
pub record MayComeBy (project : Project) (grid : Grid) (standing : Standing) (row : Record) (watch : Watch)
    (last : ℕ) : Type 0 where
  pub is_watched : Contains (watches project standing) watch
  pub second : ℕ
  pub some : 1 ≤ second
  pub in_time : second ≤ last
  pub tank : Tank
  pub is_tank : slice_get project.tanks.list watch.tank ≡ Some tank
  pub reached : IsTrue (may_reach (walls_of project tank) tank (stocks_of_tank standing watch.tank)
      (inflow_of_tank project grid row watch.tank) watch.target watch.rising second)

-- A target is met no later than another on the way up or down.
abbrev pub IsNoFarther : Bool → ℤ → ℤ → Type 0
IsNoFarther true target other = target ≤ℤ other
IsNoFarther false target other = other ≤ℤ target

-- Of a period that ends by what is watched, by a latest second: this watched level may come by then, every other that
-- may is one of the same tank and direction that is met no earlier, and the hydraulic step comes later. In each history
-- it has then been reached at the end, and not a second before.
pub record IsArrival (project : Project) (grid : Grid) (standing : Standing) (row : Record) (latest : ℕ)
    (watch : Watch) : Type 0 where
  pub comes : MayComeBy project grid standing row watch latest
  pub step_later : latest < project.times.hydraulic
  pub same_tank : (other : Watch) → MayComeBy project grid standing row other latest → other.tank ≡ watch.tank
  pub same_way : (other : Watch) → MayComeBy project grid standing row other latest → other.rising ≡ watch.rising
  pub nearest : (other : Watch) → MayComeBy project grid standing row other latest
      → IsNoFarther watch.rising watch.target other.target

-- The level that has just been reached at the end, if there is such a one: none where levels of two tanks, or levels
-- and the hydraulic step compete, and none at an end by rules or by the clock.
pub data Arrives (project : Project) (grid : Grid) (standing : Standing) (row : Record) : Way → Option Watch → Type 0
  where
    by_rules : {seconds : ℕ} → Arrives project grid standing row (ByRules seconds) None
    by_instant : {seconds : ℕ} → Arrives project grid standing row (ByInstant seconds) None
    one : {earliest latest : ℕ} {watch : Watch} → IsArrival project grid standing row latest watch
        → Arrives project grid standing row (ByWatched earliest latest) (Some watch)
    competing : {earliest latest : ℕ} → ((watch : Watch) → IsArrival project grid standing row latest watch → ⊥)
        → Arrives project grid standing row (ByWatched earliest latest) None

-- What has just been reached of tank number k, at the end of a period of a shortest length: where that is two seconds
-- at least, the level had not been reached a second before.
abbrev pub arrival_of : ℕ → Option Watch → ℕ → Option Arrival
arrival_of shortest None k = None
arrival_of shortest (Some watch) k =
    if watch.tank == k then Some (record {
      target = watch.target;
      rising = watch.rising;
      not_before = nat_le 2 shortest;
    })
    else None
