-- Whether a run whose ends of periods may be open goes on from a standing or is stopped.
-- Source: this program's.
use Rattle.std.specs.Prelude.{◌≡◌, ℕ, ◌≤◌}
use Rattle.hyd_spec.specs.ProgramTypes.{Project}
use Rattle.hyd_spec_certificates.specs.declared.StopCause.{StopCause}
use Rattle.hyd_spec_certificates.specs.PeriodNetwork.{Grid}
use Rattle.hyd_spec_certificates.specs.RecordAndStanding.{Record}
use Rattle.hyd_spec_open_ends.specs.OpenStandings.{OpenStanding, OpenRecord}
use Rattle.hyd_spec_open_ends.specs.OpenRecords.{IsValidOpenly}
use Rattle.hyd_spec_open_ends.specs.PromisesOfOpenRuns.{StopsOpenly}
use Rattle.hyd_theorems_on_nesting.specs.GoingOnOrStopped.{IsReason}

-- Some record is valid at a standing and leads on, with an end that is open by at most `slack` seconds.
pub record LeadsSomewhereOpenly (project : Project) (standing : OpenStanding) (slack : ℕ) : Type 0 where
  pub grid : Grid
  pub found : OpenRecord
  pub next : OpenStanding
  pub valid : IsValidOpenly project standing grid found next
  pub within : next.late ≤ slack

-- A cause of a stop other than spent rounds holds at a standing.
pub record IsStoppedOpenly (project : Project) (standing : OpenStanding) (slack rounds : ℕ) : Type 0 where
  pub cause : StopCause
  pub reason : IsReason cause
  pub stops : StopsOpenly project standing slack rounds cause

-- A record with the vectors of this one is valid at a standing and leads on, with an end that is open by at most so
-- many seconds.
pub record LeadsOnWith (project : Project) (standing : OpenStanding) (grid : Grid) (row : Record) (late : ℕ) : Type 0
  where
    pub found : OpenRecord
    pub next : OpenStanding
    pub main_is : found.row.main ≡ row.main
    pub pinned_is : found.row.pinned ≡ row.pinned
    pub valid : IsValidOpenly project standing grid found next
    pub within : next.late ≤ late
