-- Stop conditions: why a run can't go on from a standing.
-- Source: this program's.
use Rattle.std.specs.Prelude.{◌≡◌, ℕ, ◌<◌, ◌≤◌, ℤ, Bool, List, Some, None, length}
use Rattle.std.specs.Prelude.{slice_get, slice_index_or, unsigned_abs, position, is_none, false}
use Rattle.hyd_spec.specs.ProgramTypes.{Project, Junction, LinkState, Control, When, AtLevel}
use Rattle.hyd_spec_certificates.specs.declared.Problem.{Problem}
use Rattle.hyd_spec_certificates.specs.declared.Side.{Side}
use Rattle.hyd_spec_certificates.specs.declared.StopCause.{StopCause}
use Rattle.hyd_spec_certificates.specs.declared.StopCause.TheVariants.{Demand as DemandOutOfRange, NoCertificate}
use Rattle.hyd_spec_certificates.specs.declared.StopCause.TheVariants.{RoundsSpent, RuleOpen, EventOpen, TankOpen}
use Rattle.hyd_spec_certificates.specs.declared.StopCause.TheVariants.{ControlOpen}
use Rattle.hyd_spec.specs.Lists.{map_from}
use Rattle.hyd_spec_certificates.specs.Interval.{Interval}
use Rattle.hyd_spec.specs.NodeNumbers.{junction_count}
use Rattle.hyd_spec.specs.DemandsHeadsAndPumpLifts.{demand_of}
use Rattle.hyd_spec_certificates.specs.PeriodNetwork.{Grid}
use Rattle.hyd_spec_certificates.specs.Certificate.{IsCertificate, AreRounds, IsTight}
use Rattle.hyd_spec_certificates.specs.RecordAndStanding.{Record, Standing, vector_of}
use Rattle.hyd_spec_certificates.specs.Stocks.{state_of}
use Rattle.hyd_spec_certificates.specs.ThreeValuedLogic.{is_unknown}
use Rattle.hyd_spec_certificates.specs.Decided.{OpenRule, EndsBy, RuleIsOpen, EventIsOpen, nowhere, control_truth}
use Rattle.hyd_spec_certificates.specs.Valid.{IsProblem, IsGridAt, DemandsAreInRange, demand_limit, LeavesLinks}
use Rattle.hyd_spec_certificates.specs.Valid.{levels_next}
use Rattle.hyd_spec_certificates.specs.TurnsOfProblems.{EarlierHaveCertificates, beginning}

-- ---- demands

-- The first junction whose demand is out of range, and the demand.
pub record IsFirstDemand (project : Project) (time j : ℕ) (demand : ℤ) : Type 0 where
  pub junction : Junction
  pub is_junction : slice_get project.junctions.list j ≡ Some junction
  pub is_demand : demand ≡ demand_of project time junction
  pub out_of_range : demand_limit < unsigned_abs demand
  pub first : (earlier : ℕ) (before : Junction) → earlier < j → slice_get project.junctions.list earlier ≡ Some before
      → unsigned_abs (demand_of project time before) ≤ demand_limit

-- ---- vectors

-- At a standing with demands in range no vector is a certificate of the problem and side, the first such.
pub record HasNoCertificate (project : Project) (standing : Standing) (problem : Problem) (side : Side) : Type 0 where
  pub in_range : DemandsAreInRange project standing.time
  pub is_problem : IsProblem project problem
  pub grid : Grid
  pub is_grid : IsGridAt project standing grid
  pub earlier : EarlierHaveCertificates project grid problem side
  pub none : (u : List ℤ) → IsCertificate grid problem side u → ⊥

-- At a standing with demands in range so many plain rounds from the beginning exist, and their result is no
-- certificate; every problem and side before has one.
pub record SpendsRounds (project : Project) (standing : Standing) (problem : Problem) (side : Side)
    (rounds : ℕ) : Type 0 where
  pub in_range : DemandsAreInRange project standing.time
  pub is_problem : IsProblem project problem
  pub grid : Grid
  pub is_grid : IsGridAt project standing grid
  pub earlier : EarlierHaveCertificates project grid problem side
  pub reached : List ℤ
  pub by_rounds : AreRounds grid problem side rounds (beginning side (length grid.junctions)) reached
  pub not_one : IsCertificate grid problem side reached → ⊥

-- ---- matters under the tight vectors

-- A record whose vectors are the tight ones at a standing with demands in range.
pub record IsTightRow (project : Project) (standing : Standing) (grid : Grid) (row : Record) : Type 0 where
  pub in_range : DemandsAreInRange project standing.time
  pub is_grid : IsGridAt project standing grid
  pub one_each : length row.pinned ≡ length project.tanks.list
  pub each : (problem : Problem) (side : Side) → IsProblem project problem
      → IsTight grid problem side (vector_of row problem side)

-- Under the tight vectors the end of the period is open by a rule.
pub record LeavesRuleOpen (project : Project) (standing : Standing) (open_rule : OpenRule) : Type 0 where
  pub grid : Grid
  pub row : Record
  pub tight : IsTightRow project standing grid row
  pub is_open : EndsBy project grid standing row (RuleIsOpen open_rule)

-- Under the tight vectors the end of the period is open between two seconds.
pub record LeavesEventOpen (project : Project) (standing : Standing) (earliest latest : ℕ) : Type 0 where
  pub grid : Grid
  pub row : Record
  pub tight : IsTightRow project standing grid row
  pub is_open : EndsBy project grid standing row (EventIsOpen earliest latest)

-- Under the tight vectors the end is decided, and these are the level intervals there.
pub record EndsAtLevels (project : Project) (standing : Standing) (levels : List Interval) : Type 0 where
  pub grid : Grid
  pub row : Record
  pub tight : IsTightRow project standing grid row
  pub seconds : ℕ
  pub links : List LinkState
  pub ends : LeavesLinks project grid standing row seconds links
  pub levels_are : levels ≡ levels_next project grid standing row seconds

-- For each tank, whether its state is open at the level intervals.
abbrev pub open_states : Project → List Interval → List Bool
open_states project levels =
    map_from (λ k tank. is_none (state_of tank (slice_index_or levels k nowhere))) 0 project.tanks.list

-- The first tank whose state is open at the level intervals of the decided end, and its interval.
pub record LeavesTankOpen (project : Project) (standing : Standing) (tank : ℕ) (level : Interval) : Type 0 where
  pub levels : List Interval
  pub at_levels : EndsAtLevels project standing levels
  pub first : position (λ is_open. is_open) (open_states project levels) ≡ Some tank
  pub level_is : slice_get levels tank ≡ Some level

-- The control is a level control that is open at the level intervals.
abbrev pub is_open_control : List Interval → Control → Bool
is_open_control levels control = by_when control.when
  where
    by_when : When → Bool
    by_when (AtLevel tank above ticks) = is_unknown (control_truth (slice_index_or levels tank nowhere) above ticks)
    by_when when = false

-- The first level control that is open there, all tank states being decided, and its tank's interval.
pub record LeavesControlOpen (project : Project) (standing : Standing) (number : ℕ) (level : Interval) : Type 0 where
  pub levels : List Interval
  pub at_levels : EndsAtLevels project standing levels
  pub tanks_decided : position (λ is_open. is_open) (open_states project levels) ≡ None
  pub first : position (is_open_control levels) project.controls.list ≡ Some number
  pub tank : ℕ
  pub above : Bool
  pub ticks : ℤ
  pub control : Control
  pub is_control : slice_get project.controls.list number ≡ Some control
  pub is_level : control.when ≡ AtLevel tank above ticks
  pub level_is : slice_get levels tank ≡ Some level

-- ---- the condition

-- The period that a cause names.
abbrev pub period_of : StopCause → ℕ
period_of (DemandOutOfRange period junction demand) = period
period_of (NoCertificate period problem side junction) = period
period_of (RoundsSpent period problem side rounds) = period
period_of (RuleOpen period rule clause lo hi) = period
period_of (EventOpen period earliest latest) = period
period_of (TankOpen period tank lo hi) = period
period_of (ControlOpen period control lo hi) = period

-- What a cause says at a standing, for this number of rounds.
abbrev pub HoldsAt : Project → Standing → ℕ → StopCause → Type 0
HoldsAt project standing rounds (DemandOutOfRange period junction demand) =
    IsFirstDemand project standing.time junction demand
HoldsAt project standing rounds (NoCertificate period problem side junction) =
    (junction < junction_count project) × HasNoCertificate project standing problem side
HoldsAt project standing rounds (RoundsSpent period problem side spent) =
    (spent ≡ rounds) × SpendsRounds project standing problem side rounds
HoldsAt project standing rounds (RuleOpen period rule clause lo hi) =
    LeavesRuleOpen project standing (record { rule = rule; clause = clause; lo = lo; hi = hi })
HoldsAt project standing rounds (EventOpen period earliest latest) = LeavesEventOpen project standing earliest latest
HoldsAt project standing rounds (TankOpen period tank lo hi) =
    LeavesTankOpen project standing tank (record { lo = lo; hi = hi })
HoldsAt project standing rounds (ControlOpen period control lo hi) =
    LeavesControlOpen project standing control (record { lo = lo; hi = hi })

-- The cause holds at a standing: it names the period that begins there, and what it says is so. Every problem and side
-- before one that is named has a certificate; where a matter is named, all have tight vectors and it is the first open
-- one (that so many rounds find them isn't said). Whether the run is over there is said elsewhere.
pub record Stops (project : Project) (standing : Standing) (rounds : ℕ) (cause : StopCause) : Type 0 where
  pub period_is : period_of cause ≡ standing.number
  pub holds : HoldsAt project standing rounds cause
