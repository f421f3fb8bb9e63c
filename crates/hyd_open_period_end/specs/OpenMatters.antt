-- Matters that the vectors of a period leave open whose start or end may be open by some seconds.
-- Source: this program's.
use Rattle.std.specs.Prelude.{ℕ, ◌≤◌, List, Option}
use Rattle.hyd_spec.specs.ProgramTypes.{Project}
use Rattle.hyd_spec_certificates.specs.Interval.{Interval}
use Rattle.hyd_spec_certificates.specs.PeriodNetwork.{Grid}
use Rattle.hyd_spec_certificates.specs.RecordAndStanding.{Record}
use Rattle.hyd_spec_certificates.specs.Decided.{Watch, RuleIsOpen, EventIsOpen}
use Rattle.hyd_spec_open_ends.specs.OpenStandings.{OpenStanding, OpenRecord}
use Rattle.hyd_spec_open_ends.specs.OpenEnds.{Way, EndsIn, late_at_end}
use Rattle.hyd_spec_open_ends.specs.OpenEnds as ends
use Rattle.hyd_spec_open_ends.specs.Arrivals.{Arrives}
use Rattle.hyd_spec_open_ends.specs.OpenRecords.{levels_left}
use Rattle.hyd_spec_open_ends.specs.OpenStops.{LeavesEndOpen, LeavesTankStateOpen, LeavesLevelControlOpen}
use Rattle.hyd_spec_open_refusals.specs.RefusedOpenRecords.{lasting}
use Rattle.hyd_period_facts.specs.TankStart.{IsFirstOpen}
use Rattle.hyd_period_length.specs.TriedRules.{open_rule}
use Rattle.hyd_period_end.specs.OpenMatters.{SharesVectors, IsFirstControl}
use Rattle.hyd_period_end.specs.declared.undecided.Open.{Open}
use Rattle.hyd_period_end.specs.declared.undecided.Open.TheVariants.{Rule, Event, Tank, Control}

-- The vectors of a record decide the way in which a period ends, whatever the lengths of the record, with an end that is
-- open by at most the slack, and something holds of the level intervals that the period leaves, with the lengths of
-- that way.
pub record EndsOpenlyWith (project : Project) (grid : Grid) (standing : OpenStanding) (slack : ℕ) (found : OpenRecord)
    (holds : List Interval → Type 0) : Type 0 where
  pub way : Way
  pub reached : Option Watch
  pub within : late_at_end standing.late way ≤ slack
  pub ends : (other : Record) → SharesVectors other found.row → EndsIn project grid standing other way
  pub arrives : (other : Record) → SharesVectors other found.row
      → Arrives project grid standing.known other way reached
  pub at_levels : holds (levels_left project grid standing.known (lasting standing found way) reached)

-- The vectors of a record leave this open first, where an end may be open by at most the slack: a rule or the end of the
-- period, or where that is decided the state of a tank or a level control there.
abbrev pub IsOpenlyOpenAt : Project → Grid → OpenStanding → ℕ → OpenRecord → Open → Type 0
IsOpenlyOpenAt project grid standing slack found (Rule rule) =
    ends.IsFirstOpen project grid standing found.row slack (RuleIsOpen (open_rule rule))
IsOpenlyOpenAt project grid standing slack found (Event earliest latest) =
    ends.IsFirstOpen project grid standing found.row slack (EventIsOpen earliest latest)
IsOpenlyOpenAt project grid standing slack found (Tank tank) =
    EndsOpenlyWith project grid standing slack found (λ levels. IsFirstOpen project levels tank)
IsOpenlyOpenAt project grid standing slack found (Control control) =
    EndsOpenlyWith project grid standing slack found (λ levels. IsFirstControl project levels control)

-- This is open first at level intervals: the state of a tank, or where these are all decided a level control.
abbrev pub IsOpenAmong : Project → List Interval → Open → Type 0
IsOpenAmong project levels (Tank tank) = IsFirstOpen project levels tank
IsOpenAmong project levels (Control control) = IsFirstControl project levels control
IsOpenAmong project levels found = ⊥

-- Under the tight vectors this is open first, as the causes of stops have it.
abbrev pub IsLeftOpen : Project → OpenStanding → ℕ → Open → Type 0
IsLeftOpen project standing slack (Rule rule) = LeavesEndOpen project standing slack (RuleIsOpen (open_rule rule))
IsLeftOpen project standing slack (Event earliest latest) =
    LeavesEndOpen project standing slack (EventIsOpen earliest latest)
IsLeftOpen project standing slack (Tank found) =
    LeavesTankStateOpen project standing slack found.tank (record { lo = found.lo; hi = found.hi })
IsLeftOpen project standing slack (Control found) =
    LeavesLevelControlOpen project standing slack found.control (record { lo = found.lo; hi = found.hi })
