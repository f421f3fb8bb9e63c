-- Periods of networks within a spread that begin in one of the seconds of an open start, against what a grid and a
-- record leave open.
-- Source: this program's.
use Rattle.std.specs.Prelude.{◌≡◌, ℕ, ◌+◌, ◌≤◌}
use Rattle.hyd_spec.specs.ProgramTypes.{Project}
use Rattle.hyd_spec.specs.PeriodLength.{Period}
use Rattle.hyd_spec_certificates.specs.PeriodNetwork.{Grid}
use Rattle.hyd_spec_certificates.specs.RecordAndStanding.{Record}
use Rattle.hyd_spec_certificates.specs.Decided.{links_at}
use Rattle.hyd_spec_open_ends.specs.OpenStandings.{OpenStanding}
use Rattle.hyd_spec_spread.specs.NetworksWithin.{NodeData}
use Rattle.hyd_theorems_on_open_ends.specs.AgreementOverStarts.{begun_at, HasQuietStart}
use Rattle.hyd_theorems_on_spread_runs.specs.BoundedPeriods.{IsBounded}

-- A period of the network with some data begins in one of the seconds of a standing's start, with the links of its
-- first second, and a grid and a record bound it as of its own start.
pub record IsBoundedOpenly (project : Project) (nodes : NodeData) (S : ℕ) (period : Period) (grid : Grid)
    (standing : OpenStanding) (row : Record) : Type 0 where
  pub own : IsBounded project nodes S period grid (begun_at standing.known period.time) row
  pub after : standing.known.time ≤ period.time
  pub by : period.time ≤ standing.known.time + standing.late
  pub links : period.links ≡ links_at project standing.known
  pub quiet : HasQuietStart project standing
