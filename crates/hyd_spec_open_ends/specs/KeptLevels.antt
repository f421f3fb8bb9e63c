-- Histories that keep the levels that they reach. A next level may miss the exact one by some ticks, so a history may
-- begin a period a hair short of a level that its tank has just reached, with the controls as before; one that keeps
-- what it reaches doesn't.
-- Source: this program's.
use Rattle.std.specs.Prelude.{◌≡◌, ℕ, ℤ, Bool, IsTrue, List, [], ◌∷◌, Some, slice_get, Contains, ⊤}
use Rattle.hyd_num.specs.Rational.{whole}
use Rattle.hyd_spec.specs.ProgramTypes.{Project, Tank, Control, AtLevel}
use Rattle.hyd_spec.specs.Tank.{reaches}
use Rattle.hyd_spec.specs.PeriodLength.{Period, carried_after, level_at_start}

-- The next period keeps what a period has reached: where the carried level at a period's end has met the level of a
-- control, the level with which the next one begins meets it, too. (Carried levels are held in their bounds, so a
-- control's level beyond them asks for nothing.)
abbrev pub KeepsReached : Project → ℕ → Period → Period → Type 0
KeepsReached project S before period =
    (control : Control) (k : ℕ) (above : Bool) (ticks : ℤ) (tank : Tank) → Contains project.controls.list control
    → control.when ≡ AtLevel k above ticks → slice_get project.tanks.list k ≡ Some tank
    → IsTrue (reaches S above ticks (carried_after project S before k tank before.length))
    → IsTrue (reaches S above ticks (whole (level_at_start period k)))

-- Each period after one keeps what the one before it has reached.
abbrev pub GoesOnKeeping : Project → ℕ → Period → List Period → Type 0
GoesOnKeeping project S before [] = ⊤
GoesOnKeeping project S before (period ∷ rest) =
    KeepsReached project S before period × GoesOnKeeping project S period rest

-- A history that keeps what it reaches. One whose next levels are the exact ones is such.
abbrev pub KeepsWhatItReaches : Project → ℕ → List Period → Type 0
KeepsWhatItReaches project S [] = ⊤
KeepsWhatItReaches project S (first ∷ rest) = GoesOnKeeping project S first rest
