-- A matter that the tight vectors of a standing leave open stops a run there.
use Rattle.std.proofs.Common.{◌≡◌, ℕ, ℤ, Bool, List, refl}
use Rattle.std.specs.Prelude.{Some, None, position, slice_get}
use Rattle.hyd_spec.specs.ProgramTypes.{Project, LinkState, Control, AtLevel}
use Rattle.hyd_spec_certificates.specs.PeriodNetwork.{Grid}
use Rattle.hyd_spec_certificates.specs.RecordAndStanding.{Record, Standing}
use Rattle.hyd_spec_certificates.specs.Decided.{EndsBy, RuleIsOpen, EventIsOpen}
use Rattle.hyd_spec_certificates.specs.Valid.{LeavesLinks, levels_next}
use Rattle.hyd_spec_certificates.specs.declared.StopCause.TheVariants.{RuleOpen, EventOpen, TankOpen, ControlOpen}
use Rattle.hyd_spec_certificates.specs.Stops.{Stops, IsTightRow, EndsAtLevels, open_states, is_open_control}

module _ (project : Project) (standing : Standing) (rounds : ℕ) (grid : Grid) (row : Record)
    (tight : IsTightRow project standing grid row) where
  pub rule-stops : (rule clause : ℕ) (lo hi : ℤ)
      → EndsBy project grid standing row (RuleIsOpen (record { rule = rule; clause = clause; lo = lo; hi = hi }))
      → Stops project standing rounds (RuleOpen standing.number rule clause lo hi)
  rule-stops rule clause lo hi is = record {
    period_is = refl;
    holds = record { grid = grid; row = row; tight = tight; is_open = is };
  }

  pub event-stops : (earliest latest : ℕ) → EndsBy project grid standing row (EventIsOpen earliest latest)
      → Stops project standing rounds (EventOpen standing.number earliest latest)
  event-stops earliest latest is = record {
    period_is = refl;
    holds = record { grid = grid; row = row; tight = tight; is_open = is };
  }

  module _ (seconds : ℕ) (links : List LinkState) (leaves : LeavesLinks project grid standing row seconds links) where
    at-levels : EndsAtLevels project standing (levels_next project grid standing row seconds)
    at-levels = record {
      grid = grid;
      row = row;
      tight = tight;
      seconds = seconds;
      links = links;
      ends = leaves;
      levels_are = refl;
    }

    pub tank-stops : (tank : ℕ) (lo hi : ℤ)
        → position (λ is_open. is_open) (open_states project (levels_next project grid standing row seconds))
        ≡ Some tank
        → slice_get (levels_next project grid standing row seconds) tank ≡ Some (record { lo = lo; hi = hi })
        → Stops project standing rounds (TankOpen standing.number tank lo hi)
    tank-stops tank lo hi first level = record {
      period_is = refl;
      holds = record {
        levels = levels_next project grid standing row seconds;
        at_levels = at-levels;
        first = first;
        level_is = level;
      };
    }

    pub control-stops : (number tank : ℕ) (above : Bool) (ticks : ℤ) (control : Control) (lo hi : ℤ)
        → position (λ is_open. is_open) (open_states project (levels_next project grid standing row seconds)) ≡ None
        → position (is_open_control (levels_next project grid standing row seconds)) project.controls.list ≡ Some number
        → slice_get project.controls.list number ≡ Some control → control.when ≡ AtLevel tank above ticks
        → slice_get (levels_next project grid standing row seconds) tank ≡ Some (record { lo = lo; hi = hi })
        → Stops project standing rounds (ControlOpen standing.number number lo hi)
    control-stops number tank above ticks control lo hi decided first is is_level level = record {
      period_is = refl;
      holds = record {
        levels = levels_next project grid standing row seconds;
        at_levels = at-levels;
        tanks_decided = decided;
        first = first;
        tank = tank;
        above = above;
        ticks = ticks;
        control = control;
        is_control = is;
        is_level = is_level;
        level_is = level;
      };
    }
