-- Stop conditions of runs whose ends may be open by some seconds: what the tight vectors leave open.
-- Source: this program's.
use Rattle.std.specs.Prelude.{◌≡◌, ℕ, ◌≤◌, ℤ, Bool, List, Option, Some, None, position, slice_get}
use Rattle.hyd_spec.specs.ProgramTypes.{Project, Control, AtLevel}
use Rattle.hyd_spec_certificates.specs.Interval.{Interval}
use Rattle.hyd_spec_certificates.specs.PeriodNetwork.{Grid}
use Rattle.hyd_spec_certificates.specs.RecordAndStanding.{Record}
use Rattle.hyd_spec_certificates.specs.Decided.{Watch, End}
use Rattle.hyd_spec_certificates.specs.Stops.{IsTightRow, open_states, is_open_control}
use Rattle.hyd_spec_open_ends.specs.OpenStandings.{OpenStanding, OpenRecord}
use Rattle.hyd_spec_open_ends.specs.OpenEnds.{Way, EndsIn, shortest_length, longest_length, late_at_end, IsFirstOpen}
use Rattle.hyd_spec_open_ends.specs.Arrivals.{Arrives}
use Rattle.hyd_spec_open_ends.specs.OpenRecords.{levels_left}

-- Under the tight vectors the end of the period is open by a rule, or between two seconds.
pub record LeavesEndOpen (project : Project) (standing : OpenStanding) (slack : ℕ) (end : End) : Type 0 where
  pub grid : Grid
  pub row : Record
  pub tight : IsTightRow project standing.known grid row
  pub is_open : IsFirstOpen project grid standing row slack end

-- Under the tight vectors the period ends in a way that is open by at most the slack, and these are the level intervals
-- there.
pub record EndsAtOpenLevels (project : Project) (standing : OpenStanding) (slack : ℕ) (levels : List Interval) : Type 0
  where
    pub grid : Grid
    pub found : OpenRecord
    pub tight : IsTightRow project standing.known grid found.row
    pub way : Way
    pub ends : EndsIn project grid standing found.row way
    pub within : late_at_end standing.late way ≤ slack
    pub shortest : found.shortest ≡ shortest_length standing.late way
    pub longest : found.row.length ≡ longest_length way
    pub reached : Option Watch
    pub arrives : Arrives project grid standing.known found.row way reached
    pub levels_are : levels ≡ levels_left project grid standing.known found reached

-- The first tank whose state is open at these levels, and its interval.
pub record LeavesTankStateOpen (project : Project) (standing : OpenStanding) (slack tank : ℕ) (level : Interval) :
    Type 0 where
  pub levels : List Interval
  pub at_levels : EndsAtOpenLevels project standing slack levels
  pub first : position (λ is_open. is_open) (open_states project levels) ≡ Some tank
  pub level_is : slice_get levels tank ≡ Some level

-- The first level control that is open there, all tank states being decided, and its tank's interval.
pub record LeavesLevelControlOpen (project : Project) (standing : OpenStanding) (slack number : ℕ) (level : Interval) :
    Type 0 where
  pub levels : List Interval
  pub at_levels : EndsAtOpenLevels project standing slack levels
  pub tanks_decided : position (λ is_open. is_open) (open_states project levels) ≡ None
  pub first : position (is_open_control levels) project.controls.list ≡ Some number
  pub tank : ℕ
  pub above : Bool
  pub ticks : ℤ
  pub control : Control
  pub is_control : slice_get project.controls.list number ≡ Some control
  pub is_level : control.when ≡ AtLevel tank above ticks
  pub level_is : slice_get levels tank ≡ Some level
