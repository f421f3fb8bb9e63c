-- Pump patterns and simple controls at the start of a period, as the program knows them.
-- Source: EPANET 2.2 User Manual, chapter 3 (controls) and appendix C ([CONTROLS], [PUMPS]).
use Rattle.std.specs.Prelude.{◌≡◌, ⊤, ℕ, ◌<◌, ℤ, Bool, List, length, map, Option, Some, None, IfSome, slice_get}
use Rattle.std.specs.Prelude.{slice_set, position, fold, if◌then◌else◌}
use Rattle.hyd_spec.specs.ProgramTypes.{Project, LinkKind, PipeLink, CheckPipe, PumpLink, CurvePump, Tcv, Fcv, Gpv}
use Rattle.hyd_spec.specs.ProgramTypes.{LinkState}
use Rattle.hyd_spec.specs.ProgramTypes.{Control, When, AtLevel, AtTime, AtClock}
use Rattle.hyd_spec.specs.PumpPatternsAndSimpleControls.{control_acts}
use Rattle.hyd_spec_certificates.specs.Stops.{is_open_control}
use Rattle.hyd_spec_certificates.specs.SpansAsIntervals.{levels_of}
use Rattle.hyd_spec_certificates.specs.declared.LevelSpan.{LevelSpan}
use Rattle.hyd_controls_and_rules.specs.declared.pump_patterns_and_simple_controls.LevelOpen.{LevelOpen}

-- ---- pump patterns

-- the pattern of a pump's speeds
abbrev pub pattern_of : LinkKind → Option ℕ
pattern_of (PipeLink capacity) = None
pattern_of (CheckPipe capacity) = None
pattern_of (PumpLink capacity shutoff head pattern) = pattern
pattern_of (CurvePump bend pattern) = pattern
pattern_of (Tcv valve) = None
pattern_of (Fcv valve) = None
pattern_of (Gpv bend) = None

-- the pattern of a pump's speeds is there
abbrev pub HasPatternThere : Project → LinkKind → Type 0
HasPatternThere project kind = IfSome (pattern_of kind) (λ pattern. pattern < length project.patterns.list)

-- ---- level controls

-- the tank of a level control is one of so many
abbrev pub IsTankThere : ℕ → When → Type 0
IsTankThere tanks (AtLevel tank above ticks) = tank < tanks
IsTankThere tanks (AtTime at) = ⊤
IsTankThere tanks (AtClock at) = ⊤

-- the level interval of a level control's tank
pub record IsLevelOf (levels : List LevelSpan) (control : Control) (level : LevelSpan) : Type 0 where
  pub tank : ℕ
  pub above : Bool
  pub ticks : ℤ
  pub is_level : control.when ≡ AtLevel tank above ticks
  pub level_is : slice_get (map levels_of levels) tank ≡ Some (levels_of level)

-- the first level control that is open at the levels, and its tank's level interval
pub record IsFirstOpen (project : Project) (levels : List LevelSpan) (found : LevelOpen) : Type 0 where
  pub first : position (is_open_control (map levels_of levels)) project.controls.list ≡ Some found.control
  pub control : Control
  pub is_control : slice_get project.controls.list found.control ≡ Some control
  pub level : IsLevelOf levels control (record { lo = found.lo; hi = found.hi })

-- ---- controls in order

-- the link states after these controls
abbrev pub controlled_by : Project → ℕ → (ℕ → Bool → ℤ → Bool) → List Control → List LinkState → List LinkState
controlled_by project time acts controls states =
    fold
    (λ links control. if control_acts project time acts control.when
    then slice_set links control.link control.to else links)
    states controls
