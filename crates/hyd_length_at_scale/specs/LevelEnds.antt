-- Seconds at which levels of tanks end a period, way by way.
-- Source: EPANET 2.2 User Manual, chapter 3 (tanks; controls).
use Rattle.std.specs.Prelude.{◌≡◌, ◌≢◌, ◌⊎◌, ℕ, ◌<◌, ◌≤◌, ℤ, Bool, IsTrue, IsFalse, List, Some, Contains, slice_get}
use Rattle.hyd_num.specs.Rational.{whole}
use Rattle.hyd_spec.specs.ProgramTypes.{Project, Tank, Control, AtLevel}
use Rattle.hyd_spec.specs.declared.TankState.TheVariants.{Full, Empty}
use Rattle.hyd_spec.specs.Tank.{walls_of, content_bounds, reaches, is_at_maximum, is_at_minimum}
use Rattle.hyd_spec.specs.PeriodLength.{Period, IsLeast, level_at_start, exact_after, reached_after}

-- the first second, from 1 on, at which this holds, or the cap where it holds at none up to that
abbrev pub IsFirst : (ℕ → Type 0) → ℕ → ℕ → Type 0
IsFirst Holds cap second = IsLeast (λ s. (s ≡ cap) ⊎ ((1 ≤ s) × Holds s)) second

-- a tank that wasn't full at the start has filled
pub record Fills (project : Project) (S : ℕ) (period : Period) (k : ℕ) (seconds : ℕ) : Type 0 where
  pub tank : Tank
  pub is_tank : slice_get project.tanks.list k ≡ Some tank
  pub not_full : slice_get period.tanks k ≢ Some Full
  pub filled : IsTrue (is_at_maximum S (content_bounds (walls_of project tank) tank)
      (exact_after project period k tank seconds))

-- a tank that wasn't empty at the start has emptied
pub record Empties (project : Project) (S : ℕ) (period : Period) (k : ℕ) (seconds : ℕ) : Type 0 where
  pub tank : Tank
  pub is_tank : slice_get project.tanks.list k ≡ Some tank
  pub not_empty : slice_get period.tanks k ≢ Some Empty
  pub emptied : IsTrue (is_at_minimum S (content_bounds (walls_of project tank) tank)
      (exact_after project period k tank seconds))

-- one of the first tanks has filled or emptied
pub record IsBoundReached (project : Project) (S : ℕ) (period : Period) (count : ℕ) (seconds : ℕ) : Type 0 where
  pub number : ℕ
  pub among : number < count
  pub bound : Fills project S period number seconds ⊎ Empties project S period number seconds

-- the level of a control that didn't hold at the start is reached
pub record IsLevelReached (project : Project) (S : ℕ) (period : Period) (control : Control) (seconds : ℕ) : Type 0 where
  pub number : ℕ
  pub above : Bool
  pub ticks : ℤ
  pub tank : Tank
  pub at_level : control.when ≡ AtLevel number above ticks
  pub is_tank : slice_get project.tanks.list number ≡ Some tank
  pub not_yet : IsFalse (reaches S above ticks (whole (level_at_start period number)))
  pub reached : IsTrue (reached_after project S period number tank above ticks seconds)

-- that of one of some controls is
pub record IsSomeReached (project : Project) (S : ℕ) (period : Period) (controls : List Control) (seconds : ℕ)
    : Type 0 where
  pub control : Control
  pub among : Contains controls control
  pub level : IsLevelReached project S period control seconds
