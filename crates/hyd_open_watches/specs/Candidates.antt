-- Watched levels that may have been reached, and the nearest of them.
use Rattle.std.specs.Prelude.{◌≡◌, ◌≢◌, ◌⊎◌, ℕ, ◌*◌, ◌<◌, ◌≤◌, ℤ, ◌≤ℤ◌, Bool, true, false, IsTrue, List, Some, length}
use Rattle.std.specs.Prelude.{slice_get, unsigned_abs, Contains}
use Rattle.hyd_net.specs.NumberRanges.{head_limit}
use Rattle.hyd_spec.specs.ProgramTypes.{Project, Tank}
use Rattle.hyd_spec.specs.Tank.{walls_of}
use Rattle.hyd_spec_certificates.specs.Stocks.{may_reach}
use Rattle.hyd_spec_certificates.specs.Decided.{Watch}
use Rattle.hyd_spec_open_ends.specs.Arrivals.{IsNoFarther}
use Rattle.hyd_period_facts.specs.FactsBeforeEnd.{stocks_in, inflow_in}
use Rattle.hyd_period_facts.specs.declared.facts.Facts.{Facts}
use Rattle.hyd_open_watches.specs.declared.watches.Watch.{Watch as Here}
use Rattle.hyd_open_watches.specs.declared.nearest.Candidates.{Candidates}
use Rattle.hyd_open_watches.specs.declared.nearest.Candidates.TheVariants as candidates

-- the watched level that one of the program stands for
abbrev pub watch_for : Here → Watch
watch_for watch = record { tank = watch.tank; target = watch.target; rising = watch.rising }

-- the tank is there, and the level in range
pub record IsWatch (project : Project) (watch : Here) : Type 0 where
  pub tank : watch.tank < length project.tanks.list
  pub target : unsigned_abs watch.target ≤ 2 * head_limit

-- it may have been reached some time up to a second after the start
pub record ComesBy (project : Project) (facts : Facts) (latest : ℕ) (watch : Watch) : Type 0 where
  pub second : ℕ
  pub some : 1 ≤ second
  pub in_time : second ≤ latest
  pub tank : Tank
  pub is_tank : slice_get project.tanks.list watch.tank ≡ Some tank
  pub reached : IsTrue (may_reach (walls_of project tank) tank (stocks_in facts watch.tank) (inflow_in facts watch.tank)
      watch.target watch.rising second)

-- it isn't behind the bound from which the tank comes
abbrev pub IsAhead : Tank → ℤ → Bool → Type 0
IsAhead tank target true = tank.minimum ≤ℤ target
IsAhead tank target false = target ≤ℤ tank.maximum

abbrev pub StartsShort : Project → Here → Type 0
StartsShort project watch = (tank : Tank) → slice_get project.tanks.list watch.tank ≡ Some tank
    → IsAhead tank watch.target watch.rising

-- of these watched levels no other may have been reached before this one, and all that may are of its tank and
-- direction
pub record IsNearest (project : Project) (facts : Facts) (latest : ℕ) (watched : List Watch) (watch : Here) : Type 0
  where
    pub is_watched : Contains watched (watch_for watch)
    pub comes : ComesBy project facts latest (watch_for watch)
    pub short : StartsShort project watch
    pub in_range : IsWatch project watch
    pub same_tank : (other : Watch) → Contains watched other → ComesBy project facts latest other
        → other.tank ≡ watch.tank
    pub same_way : (other : Watch) → Contains watched other → ComesBy project facts latest other
        → other.rising ≡ watch.rising
    pub nearest : (other : Watch) → Contains watched other → ComesBy project facts latest other
        → IsNoFarther watch.rising watch.target other.target

-- two that may have been reached are of two tanks or directions
pub record AreCompeting (project : Project) (facts : Facts) (latest : ℕ) (watched : List Watch) : Type 0 where
  pub one : Watch
  pub other : Watch
  pub one_watched : Contains watched one
  pub other_watched : Contains watched other
  pub one_comes : ComesBy project facts latest one
  pub other_comes : ComesBy project facts latest other
  pub apart : (one.tank ≢ other.tank) ⊎ (one.rising ≢ other.rising)

-- which of these watched levels may have been reached
abbrev pub AreNearest : Project → Facts → ℕ → List Watch → Candidates → Type 0
AreNearest project facts latest watched candidates.None =
    (watch : Watch) → Contains watched watch → ComesBy project facts latest watch → ⊥
AreNearest project facts latest watched (candidates.One watch) = IsNearest project facts latest watched watch
AreNearest project facts latest watched candidates.Competing = AreCompeting project facts latest watched
