-- Tight runs: every vector of theirs is the tight one of its problem and side.
-- Source: this program's.
use Rattle.std.specs.Prelude.{◌≡◌, ℕ, true, List, Some}
use Rattle.std.specs.List.{AllByRecursion}
use Rattle.hyd_spec.specs.ProgramTypes.{Project}
use Rattle.hyd_spec_certificates.specs.RecordAndStanding.{Standing}
use Rattle.hyd_spec_certificates.specs.declared.StopCause.{StopCause}
use Rattle.hyd_spec_reports.specs.PromisesOfRunsAndChecks.{Found, IsRun, Sharpness, IsTightThroughout, Finished}
use Rattle.hyd_spec_reports.specs.PromisesOfRunsAndChecks.{Stopped}
use Rattle.hyd_spec_reports.specs.PromisesOfRunsAndChecks.{RunWrites}
use Rattle.hyd_spec_reports.specs.PromisesOfRunsAndChecks.{RunBreaksOff}
use Rattle.hyd_theorems_on_nesting.specs.GoingOnOrStopped.{IsReason}

-- A run of the network in which every vector of every record is the tight one, and the standing that it leaves.
pub record IsTightRun (project : Project) (founds : List Found) (left : Standing) : Type 0 where
  pub is_run : IsRun project founds left
  pub tight : AllByRecursion (IsTightThroughout project) founds

-- What a run writes and prints that finished and was to be tight, of whatever width and number of rounds.
pub record FinishesTight (project : Project) (written printed : List ℕ) : Type 0 where
  pub rounds : ℕ
  pub sharpness : Sharpness
  pub asked : sharpness.tight ≡ true
  pub writes : RunWrites project rounds sharpness Finished written printed

-- What a fault left written and printed of a run that was to be tight: broken off in its records, where its end isn't
-- known, or in its last lines, where it is. Where it is a stop, it's for another cause than spent rounds.
pub record BreaksOffTight (project : Project) (written printed : List ℕ) : Type 0 where
  pub rounds : ℕ
  pub sharpness : Sharpness
  pub asked : sharpness.tight ≡ true
  pub breaks_off : RunBreaksOff project rounds sharpness written printed
  pub unspent : (cause : StopCause) → breaks_off.last ≡ Some (Stopped cause) → IsReason cause
