-- What a run with a slack and a check of its certificate promise, as theorems on definitions use it.
-- Source: this program's.
use Rattle.std.specs.Prelude.{◌≡◌, ℕ, ◌<◌, List, Option, Some, None, true, false, length, map, is_none}
use Rattle.hyd_spec.specs.ProgramTypes.{Project}
use Rattle.hyd_spec.specs.NodeNumbers.{junction_count, tank_count}
use Rattle.hyd_spec_certificates.specs.declared.StopCause.{StopCause}
use Rattle.hyd_spec_certificates.specs.declared.StopCause.TheVariants.{Demand as DemandOutOfRange, NoCertificate}
use Rattle.hyd_spec_certificates.specs.declared.StopCause.TheVariants.{RoundsSpent, RuleOpen, EventOpen, TankOpen}
use Rattle.hyd_spec_certificates.specs.declared.StopCause.TheVariants.{ControlOpen}
use Rattle.hyd_spec_certificates.specs.Decided.{RuleIsOpen, EventIsOpen}
use Rattle.hyd_spec_certificates.specs.Stops.{IsFirstDemand, HasNoCertificate, SpendsRounds, period_of}
use Rattle.hyd_spec_open_ends.specs.OpenStandings.{OpenStanding, OpenRecord}
use Rattle.hyd_spec_open_ends.specs.OpenStops.{LeavesEndOpen, LeavesTankStateOpen, LeavesLevelControlOpen}
use Rattle.hyd_spec_open_ends.specs.OpenRuns.{OpenFound, IsOpenRun, EveryKeepingHistoryAgrees}
use Rattle.hyd_spec_open_ends.specs.OpenCertificateText.{IsOpenCertificateText}

-- ---- stops

-- What a cause says at a standing, for this slack and number of rounds.
abbrev pub HoldsOpenlyAt : Project → OpenStanding → ℕ → ℕ → StopCause → Type 0
HoldsOpenlyAt project standing slack rounds (DemandOutOfRange period junction demand) =
    IsFirstDemand project standing.known.time junction demand
HoldsOpenlyAt project standing slack rounds (NoCertificate period problem side junction) =
    (junction < junction_count project) × HasNoCertificate project standing.known problem side
HoldsOpenlyAt project standing slack rounds (RoundsSpent period problem side spent) =
    (spent ≡ rounds) × SpendsRounds project standing.known problem side rounds
HoldsOpenlyAt project standing slack rounds (RuleOpen period rule clause lo hi) =
    LeavesEndOpen project standing slack
    (RuleIsOpen (record { rule = rule; clause = clause; lo = lo; hi = hi }))
HoldsOpenlyAt project standing slack rounds (EventOpen period earliest latest) =
    LeavesEndOpen project standing slack (EventIsOpen earliest latest)
HoldsOpenlyAt project standing slack rounds (TankOpen period tank lo hi) =
    LeavesTankStateOpen project standing slack tank (record { lo = lo; hi = hi })
HoldsOpenlyAt project standing slack rounds (ControlOpen period control lo hi) =
    LeavesLevelControlOpen project standing slack control (record { lo = lo; hi = hi })

-- The cause names the period that begins at the standing, and what it says is so.
pub record StopsOpenly (project : Project) (standing : OpenStanding) (slack rounds : ℕ) (cause : StopCause) : Type 0
  where
    pub period_is : period_of cause ≡ standing.known.number
    pub holds : HoldsOpenlyAt project standing slack rounds cause

-- A run that stops for no cause has done the period at the end of the run; at the standing that another one leaves, its
-- cause holds.
abbrev pub EndsOpenlySo : Project → OpenStanding → ℕ → ℕ → Option StopCause → Type 0
EndsOpenlySo project standing slack rounds None = standing.known.finished ≡ true
EndsOpenlySo project standing slack rounds (Some cause) =
    (standing.known.finished ≡ false) × StopsOpenly project standing slack rounds cause

-- ---- promises

-- The records of what was found.
abbrev pub open_rows_of : List OpenFound → List OpenRecord
open_rows_of founds = map (λ here. here.found) founds

-- What was written is the certificate of a run with the slack, and every history that keeps what it reaches agrees with
-- it.
pub record RunWritesOpenly (project : Project) (slack rounds : ℕ) (stop : Option StopCause) (written : List ℕ) : Type
    0 where
  pub founds : List OpenFound
  pub left : OpenStanding
  pub is_run : IsOpenRun project slack founds left
  pub ends_so : EndsOpenlySo project left slack rounds stop
  pub certificate : IsOpenCertificateText written (junction_count project) (tank_count project) (open_rows_of founds)
      (length founds) (is_none stop)
  pub every_history : EveryKeepingHistoryAgrees project founds

-- What was read was accepted as the certificate of a run with some slack, and every history that keeps what it reaches
-- agrees with it.
pub record CheckAcceptsOpenly (project : Project) (text : List ℕ) : Type 0 where
  pub slack : ℕ
  pub founds : List OpenFound
  pub left : OpenStanding
  pub is_run : IsOpenRun project slack founds left
  pub certificate : IsOpenCertificateText text (junction_count project) (tank_count project) (open_rows_of founds)
      (length founds) left.known.finished
  pub every_history : EveryKeepingHistoryAgrees project founds
