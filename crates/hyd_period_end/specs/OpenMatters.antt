-- Matters that the vectors of a period leave open.
-- Source: this program's.
use Rattle.std.specs.Prelude.{◌≡◌, ℕ, ℤ, Bool, List, Some, None, position, slice_get}
use Rattle.hyd_spec.specs.ProgramTypes.{Project, LinkState, Control as Command, AtLevel}
use Rattle.hyd_spec_certificates.specs.Interval.{Interval}
use Rattle.hyd_spec_certificates.specs.PeriodNetwork.{Grid}
use Rattle.hyd_spec_certificates.specs.RecordAndStanding.{Record, Standing}
use Rattle.hyd_spec_certificates.specs.Decided.{EndsBy, RuleIsOpen, EventIsOpen}
use Rattle.hyd_spec_certificates.specs.Valid.{LeavesLinks, levels_next}
use Rattle.hyd_spec_certificates.specs.Stops.{open_states, is_open_control}
use Rattle.hyd_period_facts.specs.PassedOn.{LevelOpen}
use Rattle.hyd_period_facts.specs.TankStart.{IsFirstOpen}
pub use Rattle.hyd_period_length.specs.TriedRules.{open_rule}
use Rattle.hyd_period_end.specs.declared.undecided.Open.{Open}
use Rattle.hyd_period_end.specs.declared.undecided.Open.TheVariants.{Rule, Event, Tank, Control}

-- two records have the same vectors
pub record SharesVectors (one other : Record) : Type 0 where
  pub main : one.main ≡ other.main
  pub pinned : one.pinned ≡ other.pinned

-- the end of a period is decided, and something holds of the level intervals there
pub record EndsWith (project : Project) (grid : Grid) (standing : Standing) (row : Record)
    (holds : List Interval → Type 0) : Type 0 where
  pub seconds : ℕ
  pub links : List LinkState
  pub leaves : LeavesLinks project grid standing row seconds links
  pub at_levels : holds (levels_next project grid standing row seconds)

-- the first level control that is open at level intervals, all states of tanks being decided there, and its tank's
-- interval
pub record IsFirstControl (project : Project) (levels : List Interval) (found : LevelOpen) : Type 0 where
  pub tanks_decided : position (λ is_open. is_open) (open_states project levels) ≡ None
  pub first : position (is_open_control levels) project.controls.list ≡ Some found.control
  pub control : Command
  pub is_control : slice_get project.controls.list found.control ≡ Some control
  pub tank : ℕ
  pub above : Bool
  pub ticks : ℤ
  pub is_level : control.when ≡ AtLevel tank above ticks
  pub level_is : slice_get levels tank ≡ Some (record { lo = found.lo; hi = found.hi })

-- the vectors of a record leave this open: a rule or the end of the period, or where that is decided the state of a
-- tank or a level control there
abbrev pub IsOpenAt : Project → Grid → Standing → Record → Open → Type 0
IsOpenAt project grid standing row (Rule found) = EndsBy project grid standing row (RuleIsOpen (open_rule found))
IsOpenAt project grid standing row (Event earliest latest) =
    EndsBy project grid standing row (EventIsOpen earliest latest)
IsOpenAt project grid standing row (Tank found) =
    EndsWith project grid standing row (λ levels. IsFirstOpen project levels found)
IsOpenAt project grid standing row (Control found) =
    EndsWith project grid standing row (λ levels. IsFirstControl project levels found)
