-- How sharp a record is, and the stop where a period lacks a vector or a matter is open: which it is, what it says of
-- the junction that it names, and where there is none.
-- Source: this program's.
use Rattle.std.specs.Prelude.{◌≡◌, ℕ, ◌<◌, ℤ, pos, ◌+ℤ◌, ◌-ℤ◌, ◌*ℤ◌, ◌≤ℤ◌, List, slice_index_or}
use Rattle.hyd_spec.specs.Assignment.{head_at}
use Rattle.hyd_spec.specs.Lists.{Each}
use Rattle.hyd_spec.specs.ProgramTypes.{Project}
use Rattle.hyd_spec_certificates.specs.declared.Problem.{Problem}
use Rattle.hyd_spec_certificates.specs.declared.Side.{Side}
use Rattle.hyd_spec_certificates.specs.Interval.{Interval, width}
use Rattle.hyd_spec_certificates.specs.Narrow.{widest}
use Rattle.hyd_spec_certificates.specs.Decided.{nowhere}
use Rattle.hyd_spec_certificates.specs.PeriodNetwork.{Grid}
use Rattle.hyd_spec_certificates.specs.Certificate.{IsCertificate}
use Rattle.hyd_spec_certificates.specs.RecordAndStanding.{Standing}
use Rattle.hyd_spec_certificates.specs.Valid.{IsGridAt}
use Rattle.hyd_spec_certificates.specs.TurnsOfProblems.{turn}
use Rattle.hyd_spec_certificates.specs.declared.StopCause.{StopCause}
use Rattle.hyd_spec_certificates.specs.declared.StopCause.TheVariants.{NoCertificate, RoundsSpent, RuleOpen, EventOpen}
use Rattle.hyd_spec_certificates.specs.declared.StopCause.TheVariants.{TankOpen, ControlOpen}
use Rattle.hyd_cert.specs.RecordView.{IsProblemOf}
use Rattle.hyd_period_end.specs.declared.undecided.Open.{Open}
use Rattle.hyd_period_end.specs.declared.undecided.Open.TheVariants.{Rule, Event, Tank, Control}
use Rattle.hyd_period_vectors.specs.SoughtVectors.{Lacks, IsStuck}
use Rattle.hyd_period_vectors.specs.declared.missing_vector.Lack.{Lack}
use Rattle.hyd_period_vectors.specs.declared.missing_vector.Lack.TheVariants.{NoCertificate as LacksCertificate}
use Rattle.hyd_period_vectors.specs.declared.missing_vector.Lack.TheVariants.{RoundsSpent as SpentRounds}

-- head intervals between two vectors and level intervals before and after a period are narrow for a width
pub record AreNarrow (W : ℤ) (upper lower : List ℤ) (before after : List Interval) : Type 0 where
  pub heads : Each upper (λ j h. (h -ℤ head_at lower j) ≤ℤ (W +ℤ widest before))
  pub levels : Each after (λ k level.
      (pos 100 *ℤ width level) ≤ℤ ((pos 200 *ℤ width (slice_index_or before k nowhere)) +ℤ W))

-- a problem and side lacks a vector, and those before it have one
pub record LacksOne (grid : Grid) (tanks rounds : ℕ) (lack : Lack) : Type 0 where
  pub problem : Problem
  pub side : Side
  pub is_problem : IsProblemOf tanks problem
  pub lacks : Lacks grid problem side rounds lack
  pub earlier : (other : Problem) (face : Side) → IsProblemOf tanks other → turn other face < turn problem side
      → (u : List ℤ) × IsCertificate grid other face u

-- the stop of a period that lacks a vector
abbrev pub stop_of : ℕ → ℕ → Lack → StopCause
stop_of number rounds (LacksCertificate problem side junction) = NoCertificate number problem side junction
stop_of number rounds (SpentRounds problem side) = RoundsSpent number problem side rounds

-- a stop says that no vector is a certificate
abbrev pub SaysNone : StopCause → Type 0
SaysNone (NoCertificate period problem side junction) = Unit {0}
SaysNone cause = ⊥

-- a vector lacks since rounds toward it were spent
abbrev pub IsBySpentRounds : Lack → Type 0
IsBySpentRounds (SpentRounds problem side) = Unit {0}
IsBySpentRounds lack = ⊥

-- at a standing, on the grid of its period, a junction has no value at heads that were reached
pub record IsStuckAt (project : Project) (standing : Standing) (problem : Problem) (side : Side)
    (rounds junction : ℕ) : Type 0 where
  pub grid : Grid
  pub is_grid : IsGridAt project standing grid
  pub stuck : IsStuck grid problem side rounds junction

-- where a stop says that no vector is a certificate, it names a junction that has no value at heads that were reached
pub record NamesStuck (project : Project) (standing : Standing) (rounds : ℕ) (cause : StopCause) : Type 0 where
  pub stuck : (period : ℕ) (problem : Problem) (side : Side) (junction : ℕ)
      → cause ≡ NoCertificate period problem side junction → IsStuckAt project standing problem side rounds junction

-- the stop of a period with an open matter
abbrev pub open_stop_of : ℕ → Open → StopCause
open_stop_of number (Rule found) = RuleOpen number found.rule found.clause found.lo found.hi
open_stop_of number (Event earliest latest) = EventOpen number earliest latest
open_stop_of number (Tank found) = TankOpen number found.tank found.lo found.hi
open_stop_of number (Control found) = ControlOpen number found.control found.lo found.hi
