-- Instants after a time at which the clock ends a period.
-- Source: EPANET 2.2 User Manual, chapter 3 (extended period simulation: when the next hydraulic time step ends).
use Rattle.std.specs.Prelude.{◌≡◌, ◌⊎◌, ℕ, ◌+◌, ◌-◌, ◌%◌, ◌<◌, ◌≤◌, List, Contains}
use Rattle.hyd_spec.specs.ProgramTypes.{Project, Control, When, AtLevel, AtTime, AtClock}
use Rattle.hyd_spec.specs.PumpPatternsAndSimpleControls.{clock_at}
use Rattle.hyd_spec.specs.PeriodLength.{IsLeast}

-- the least number of seconds, at least 1, to a multiple of a step
abbrev pub IsToMultiple : ℕ → ℕ → ℕ → Type 0
IsToMultiple passed step seconds = IsLeast (λ s. (0 < s) × ((passed + s) % step ≡ 0)) seconds

-- the next instant at which a step of the patterns begins
abbrev pub IsNextPattern : Project → ℕ → ℕ → Type 0
IsNextPattern project time instant =
    IsLeast (λ e. (time < e) × ((e + project.times.pattern_start) % project.times.pattern ≡ 0)) instant

-- the next report time
abbrev pub IsNextReport : Project → ℕ → ℕ → Type 0
IsNextReport project time instant =
    IsLeast (λ e. (time < e) × ((project.times.report_start ≤ e)
    × ((e - project.times.report_start) % project.times.report ≡ 0)))
    instant

-- the least number of seconds, at least 1, until the clock shows a time of day
abbrev pub IsToClock : Project → ℕ → ℕ → ℕ → Type 0
IsToClock project time at seconds = IsLeast (λ s. (0 < s) × (clock_at project (time + s) ≡ at)) seconds

-- a control acts by time or by clock at an instant
abbrev pub ComesAt : Project → When → ℕ → Type 0
ComesAt project (AtLevel tank above ticks) e = ⊥
ComesAt project (AtTime at) e = e ≡ at
ComesAt project (AtClock at) e = clock_at project e ≡ at

-- the next instant after a time at which it does, or the cap where that comes first
abbrev pub IsFirstComing : Project → ℕ → ℕ → When → ℕ → Type 0
IsFirstComing project time cap when instant = IsLeast (λ e. (e ≡ cap) ⊎ ((time < e) × ComesAt project when e)) instant

-- the next instant after a time at which one of some controls does, or the cap where that comes first
pub record IsFirstAmong (project : Project) (time cap : ℕ) (controls : List Control) (instant : ℕ) : Type 0 where
  pub later : time < instant
  pub within : instant ≤ cap
  pub reached : (instant ≡ cap) ⊎ ((control : Control) × (Contains controls control
      × ComesAt project control.when instant))
  pub none_before : (control : Control) (e : ℕ) → Contains controls control → time < e → ComesAt project control.when e
      → instant ≤ e
