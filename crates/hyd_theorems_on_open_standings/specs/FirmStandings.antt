-- What every standing of a run keeps whose ends of periods may be open.
-- Source: this program's.
use Rattle.hyd_spec.specs.ProgramTypes.{Project}
use Rattle.hyd_spec.specs.Lists.{Each}
use Rattle.hyd_spec_certificates.specs.PeriodNetwork.{Grid}
use Rattle.hyd_spec_certificates.specs.RecordAndStanding.{Record}
use Rattle.hyd_spec_certificates.specs.Decided.{inflow_of_tank}
use Rattle.hyd_theorems_on_nesting.specs.Nesting.{IsOrdered}
use Rattle.hyd_theorems_on_histories.specs.Agreement.{IsKept}
use Rattle.hyd_theorems_on_nesting.specs.StandingsOfRuns.{IsTidy}
use Rattle.hyd_spec_open_ends.specs.OpenStandings.{OpenStanding}
use Rattle.hyd_theorems_on_open_ends.specs.AgreementOverStarts.{HasQuietStart}

-- It keeps what the standings of other runs keep, its levels within the bounds of the tanks and some stock in each
-- interval, and no instant of the clock lies in an open start.
pub record IsFirm (project : Project) (standing : OpenStanding) : Type 0 where
  pub kept : IsKept project standing.known
  pub tidy : IsTidy project standing.known
  pub quiet : HasQuietStart project standing

-- What flows into each tank by a record on a grid lies between two flows in order.
abbrev pub AreFlowsInOrder : Project → Grid → Record → Type 0
AreFlowsInOrder project grid row = Each project.tanks.list (λ k tank. IsOrdered (inflow_of_tank project grid row k))
