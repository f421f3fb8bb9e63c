-- Whether a run goes on from a standing or is stopped.
use Rattle.std.specs.Prelude.{ℕ, ⊤}
use Rattle.hyd_spec.specs.ProgramTypes.{Project}
use Rattle.hyd_spec_certificates.specs.PeriodNetwork.{Grid}
use Rattle.hyd_spec_certificates.specs.RecordAndStanding.{Record, Standing}
use Rattle.hyd_spec_certificates.specs.Valid.{IsValid}
use Rattle.hyd_spec_certificates.specs.declared.StopCause.{StopCause}
use Rattle.hyd_spec_certificates.specs.declared.StopCause.TheVariants.{Demand as DemandOutOfRange, NoCertificate}
use Rattle.hyd_spec_certificates.specs.declared.StopCause.TheVariants.{RoundsSpent, RuleOpen, EventOpen, TankOpen}
use Rattle.hyd_spec_certificates.specs.declared.StopCause.TheVariants.{ControlOpen}
use Rattle.hyd_spec_certificates.specs.Stops.{Stops}

-- A cause of a stop other than spent rounds: it says that no record at all could go on.
abbrev pub IsReason : StopCause → Type 0
IsReason (RoundsSpent period problem side spent) = ⊥
IsReason (DemandOutOfRange period junction demand) = ⊤
IsReason (NoCertificate period problem side junction) = ⊤
IsReason (RuleOpen period rule clause lo hi) = ⊤
IsReason (EventOpen period earliest latest) = ⊤
IsReason (TankOpen period tank lo hi) = ⊤
IsReason (ControlOpen period control lo hi) = ⊤

-- Some record is valid at a standing and leads on.
pub record LeadsSomewhere (project : Project) (standing : Standing) : Type 0 where
  pub grid : Grid
  pub row : Record
  pub next : Standing
  pub valid : IsValid project standing grid row next

-- A cause of a stop other than spent rounds holds at a standing.
pub record IsStopped (project : Project) (standing : Standing) (rounds : ℕ) : Type 0 where
  pub cause : StopCause
  pub reason : IsReason cause
  pub stops : Stops project standing rounds cause
