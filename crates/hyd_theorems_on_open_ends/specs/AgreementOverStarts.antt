-- When a history agrees with what is known where a period begins whose start is open by some seconds, and what every
-- standing of such a run keeps.
-- Source: this program's.
use Rattle.std.specs.Prelude.{◌≡◌, ℕ, ◌+◌, ◌<◌, ◌≤◌, ◌⊎◌, ℤ, List}
use Rattle.std.specs.List.{AllZip}
use Rattle.hyd_spec.specs.ProgramTypes.{Project, LinkState}
use Rattle.hyd_spec.specs.PeriodLength.{Period}
use Rattle.hyd_spec.specs.History.{tank_states}
use Rattle.hyd_spec_certificates.specs.PeriodNetwork.{Grid}
use Rattle.hyd_spec_certificates.specs.RecordAndStanding.{Record, Standing}
use Rattle.hyd_spec_certificates.specs.Decided.{links_at}
use Rattle.hyd_spec_certificates.specs.Valid.{ControlsAreDecided}
use Rattle.hyd_theorems_on_definitions.specs.LyingInIntervals.{LevelsLie}
use Rattle.hyd_theorems_on_histories.specs.Agreement.{IsUnder, VolumesLie, IsOwnState}
use Rattle.hyd_spec_open_ends.specs.InstantsOfClock.{HasNoInstant}
use Rattle.hyd_spec_open_ends.specs.OpenStandings.{OpenStanding}
use Rattle.hyd_spec_open_ends.specs.OpenEnds.{Way, shortest_length, longest_length, first_end, late_at_end}

-- The standing as it is for a history that begins the period at this time.
abbrev pub begun_at : Standing → ℕ → Standing
begun_at standing time = record standing { time = time }

-- Where a period of a history begins, at a time with levels and volumes and after links were commanded so, it agrees
-- with a standing whose start is open: the time is one of its seconds, the stocks lie in the intervals, the tanks are
-- in the states that the standing has, and the links were commanded to be in the same states.
pub record AgreesFrom (project : Project) (S : ℕ) (standing : OpenStanding) (time : ℕ) (levels volumes : List ℤ)
    (commanded : List LinkState) : Type 0 where
  pub after : standing.known.time ≤ time
  pub by : time ≤ standing.known.time + standing.late
  pub levels_lie : LevelsLie S standing.known.levels levels
  pub volumes_lie : VolumesLie S standing.known.volumes volumes
  pub tanks_are : tank_states S project.tanks.list levels ≡ standing.known.tanks
  pub commanded_are : commanded ≡ standing.known.commanded

-- The start is known to the second, or it is after time 0 and no instant of the clock lies in its seconds.
abbrev pub HasQuietStart : Project → OpenStanding → Type 0
HasQuietStart project standing =
    (standing.late ≡ 0) ⊎ ((0 < standing.known.time) × HasNoInstant project standing.known.time
    (standing.known.time + standing.late))

-- A period of a history that begins as a standing says whose start is open: it is under the record as of its own start,
-- which is one of the seconds of the standing's, and its links are in the states of that.
pub record IsUnderOpenly (project : Project) (S : ℕ) (period : Period) (grid : Grid) (standing : OpenStanding)
    (row : Record) : Type 0 where
  pub own : IsUnder project S period grid (begun_at standing.known period.time) row
  pub after : standing.known.time ≤ period.time
  pub by : period.time ≤ standing.known.time + standing.late
  pub links : period.links ≡ links_at project standing.known
  pub quiet : HasQuietStart project standing

-- What every standing of a run keeps, whatever the history: the level controls are decided, each link was commanded to
-- be in a state of its own, and no instant of the clock lies in an open start.
pub record IsKeptOpenly (project : Project) (standing : OpenStanding) : Type 0 where
  pub controls : ControlsAreDecided project standing.known.levels
  pub states : AllZip (IsOwnState project) project.links.list standing.known.commanded
  pub quiet : HasQuietStart project standing

-- A period of a history ends in a way from a standing: its length and its end lie between those of the way.
pub record EndsSo (period : Period) (standing : OpenStanding) (way : Way) : Type 0 where
  pub from : shortest_length standing.late way ≤ period.length
  pub to : period.length ≤ longest_length way
  pub ends_from : standing.known.time + first_end way ≤ period.time + period.length
  pub ends_by : period.time + period.length ≤ (standing.known.time + first_end way) + late_at_end standing.late way
