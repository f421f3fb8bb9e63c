-- The start of a run for the spread of a text. The levels that the text allows there may leave it open in what state a
-- tank is, or whether a level control holds; then the text is refused, at the row that counts for that tank.
-- Source: this program's.
use Rattle.std.specs.Prelude.{◌≡◌, ℕ, suc, ℤ, Bool, ◌⊎◌, List, [], ◌∷◌, Option, Some, None, slice_get, slice_index_or}
use Rattle.std.specs.Prelude.{position, if◌then◌else◌}
use Rattle.std.specs.Option.{option_map}
use Rattle.hyd_net.specs.declared.refusal_cause.Cause.{Cause}
use Rattle.hyd_net.specs.declared.refusal_cause.Cause.TheVariants.{Range}
use Rattle.hyd_spec.specs.ProgramTypes.{Project, Control, AtLevel}
use Rattle.hyd_spec.specs.NodeNumbers.{tank_node}
use Rattle.hyd_spec_certificates.specs.Interval.{Interval}
use Rattle.hyd_spec_certificates.specs.Stops.{open_states, is_open_control}
use Rattle.hyd_spec_lines.specs.WordsOfLines.{text_lines}
use Rattle.hyd_spec_lines.specs.Headings.{either}
use Rattle.hyd_spec_spread.specs.IntervalsOfData.{known_levels}
use Rattle.hyd_spec_spread_rows.specs.declared.Subject.{Subject}
use Rattle.hyd_spec_spread_rows.specs.declared.Subject.TheVariants.{Level}
use Rattle.hyd_spec_spread_rows.specs.TextsOfSpreads.{IsFault, HasNoFault, rows_of, names, names_all, spread_in}
use Rattle.hyd_spec_spread_runs.specs.RunsForSpreads.{StartIsDecided}

-- ---- the row that counts

-- the place of the last row that a test picks
abbrev pub last_place : (List (List ℕ) → Bool) → List (List (List ℕ)) → Option ℕ
last_place test [] = None
last_place test (row ∷ rows) = either (option_map (λ place. suc place) (last_place test rows))
    (if test row then Some 0 else None)

-- the place of the row that counts for a node: of the last row that names it, else of the last one for all
abbrev pub place_for : Project → Subject → List (List (List ℕ)) → ℕ → Option ℕ
place_for project subject rows node =
    either (last_place (names subject (slice_index_or project.node_ids node [])) rows)
    (last_place (names_all subject) rows)

-- ---- what is open

-- the states of all tanks are decided at level intervals, and the first level control that isn't is one of this tank
pub record IsOpenByControl (project : Project) (levels : List Interval) (tank : ℕ) : Type 0 where
  pub states_decided : position (λ is_open. is_open) (open_states project levels) ≡ None
  pub number : ℕ
  pub first : position (is_open_control levels) project.controls.list ≡ Some number
  pub control : Control
  pub is_control : slice_get project.controls.list number ≡ Some control
  pub above : Bool
  pub ticks : ℤ
  pub is_level : control.when ≡ AtLevel tank above ticks

-- the tank that level intervals leave open, the first one: the first whose state is open, else that of the first level
-- control that is
abbrev pub IsOpenTank : Project → List Interval → ℕ → Type 0
IsOpenTank project levels tank =
    (position (λ is_open. is_open) (open_states project levels) ≡ Some tank) ⊎ IsOpenByControl project levels tank

-- ---- faults at the start

-- A text without another fault leaves a tank open at the start. The fault is out of range, in the line, counted from 1,
-- of the row that counts for the tank.
pub record IsFaultAtStart (project : Project) (text : List ℕ) (number : ℕ) (cause : Cause) : Type 0 where
  pub no_other : HasNoFault project text
  pub tank : ℕ
  pub is_open : IsOpenTank project (known_levels project (spread_in project text)) tank
  pub place : ℕ
  pub counts : place_for project Level (rows_of (text_lines text)) (tank_node project tank) ≡ Some place
  pub number_is : number ≡ suc place
  pub cause_is : cause ≡ Range

-- The fault of a text with which a run is to begin: its first fault, or where it has none the one at the start.
abbrev pub IsFaultForRun : Project → List ℕ → ℕ → Cause → Type 0
IsFaultForRun project text number cause = IsFault project text number cause ⊎ IsFaultAtStart project text number cause

-- A run can begin with a text: it has no fault, and leaves no doubt at the start.
pub record CanBegin (project : Project) (text : List ℕ) : Type 0 where
  pub no_fault : HasNoFault project text
  pub decided : StartIsDecided project (spread_in project text)
