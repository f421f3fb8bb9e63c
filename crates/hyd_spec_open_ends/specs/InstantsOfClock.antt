-- Instants of the clock: times at which every period that has begun before them ends, whenever it began.
-- Source: EPANET 2.2 User Manual, chapter 3 (extended period simulation: when the next hydraulic time step ends).
use Rattle.std.specs.Prelude.{◌≡◌, ℕ, ◌+◌, ◌-◌, ◌%◌, ◌<◌, ◌≤◌, Contains}
use Rattle.hyd_spec.specs.ProgramTypes.{Project, Control, AtTime, AtClock}
use Rattle.hyd_spec.specs.PumpPatternsAndSimpleControls.{clock_at}
use Rattle.hyd_spec.specs.PeriodLength.{IsLeast}

-- An instant of the clock: the end of the run, where a step of the patterns begins, a report time, or where a control
-- acts by time or clock. The hydraulic step isn't among them, since it is counted from a period's own start.
pub data IsInstant (project : Project) (e : ℕ) : Type 0 where
  duration : e ≡ project.times.duration → IsInstant project e
  pattern : (e + project.times.pattern_start) % project.times.pattern ≡ 0 → IsInstant project e
  report : project.times.report_start ≤ e → (e - project.times.report_start) % project.times.report ≡ 0
      → IsInstant project e
  control_time : (control : Control) → Contains project.controls.list control → control.when ≡ AtTime e
      → IsInstant project e
  control_clock : (control : Control) (at : ℕ) → Contains project.controls.list control → control.when ≡ AtClock at
      → clock_at project e ≡ at → IsInstant project e

-- The seconds from a time to the next instant after it.
abbrev pub AreSecondsToInstant : Project → ℕ → ℕ → Type 0
AreSecondsToInstant project time seconds = IsLeast (λ e. (time < e) × IsInstant project e) (time + seconds)

-- No instant lies from one time to another, both included.
abbrev pub HasNoInstant : Project → ℕ → ℕ → Type 0
HasNoInstant project first last = (e : ℕ) → first ≤ e → e ≤ last → IsInstant project e → ⊥
