-- Runs for a spread with a slack beside runs of the network with a slack, and beside runs for the spread without one.
-- Source: this program's.
use Rattle.std.specs.Prelude.{◌≡◌, ◌≢◌, Option}
use Rattle.hyd_spec.specs.ProgramTypes.{Project}
use Rattle.hyd_spec_certificates.specs.PeriodNetwork.{Grid}
use Rattle.hyd_spec_certificates.specs.RecordAndStanding.{Record, Standing}
use Rattle.hyd_spec_certificates.specs.Decided.{Watch}
use Rattle.hyd_spec_certificates.specs.Valid.{levels_next, volumes_next}
use Rattle.hyd_spec_open_ends.specs.OpenStandings.{OpenStanding, OpenRecord}
use Rattle.hyd_spec_open_ends.specs.OpenEnds.{Way, EndsIn}
use Rattle.hyd_spec_open_ends.specs.Arrivals.{Arrives}
use Rattle.hyd_spec_open_ends.specs.OpenRecords.{levels_left, volumes_left}
use Rattle.hyd_spec_open_ends.specs.OpenRuns.{OpenFound}
use Rattle.hyd_spec_spread_runs.specs.OutermostPairs.{spanned, spanning}
use Rattle.hyd_spec_spread_runs.specs.RunsForSpreads.{FoundOver}
use Rattle.hyd_spec_open_spreads.specs.OpenRunsForSpreads.{OpenFoundOver}

-- ---- without a spread

-- What was found for the network, as found for a spread, with its grid on both sides.
abbrev pub on_both_sides : OpenFound → OpenFoundOver
on_both_sides here = record {
  standing = here.standing;
  pair = record { upper = here.grid; lower = here.grid };
  found = here.found;
  next = here.next;
}

-- ---- without open ends

-- The level and volume intervals that an end leaves are those without open ends: nothing is cut by what has just been
-- reached, and nothing by what is kept.
pub record IsUncut (project : Project) (grid : Grid) (standing : Standing) (row : Record) (next : Standing) : Type 0
  where
    pub levels : next.levels ≡ levels_next project grid standing row row.length
    pub volumes : next.volumes ≡ volumes_next project grid standing row row.length

-- So it is at the end of what was found, unless that is the end of the run.
abbrev pub EndIsUncut : Project → OpenFoundOver → Type 0
EndIsUncut project here =
    here.standing.known.time ≢ project.times.duration
    → IsUncut project (spanned here.pair) here.standing.known (spanning here.pair here.found.row) here.next.known

-- What was found, without the seconds that starts and ends are open.
abbrev pub to_the_second : OpenFoundOver → FoundOver
to_the_second here = record {
  standing = here.standing.known;
  pair = here.pair;
  row = here.found.row;
  next = here.next.known;
}

-- The same the other way round: a standing and a record whose seconds are known.
abbrev pub known_standing : Standing → OpenStanding
known_standing standing = record { known = standing; late = 0 }

abbrev pub known_record : Record → OpenRecord
known_record row = record { row = row; late = 0; shortest = row.length }

-- The words for open ends decide how the period of a record ends whose start is known to the second, and what has just
-- been reached there, and that leaves the levels and volumes of the words without open ends: nothing is cut.
pub record HasUncutEnd (project : Project) (grid : Grid) (standing : Standing) (row : Record) : Type 0 where
  pub way : Way
  pub ends : EndsIn project grid (known_standing standing) row way
  pub reached : Option Watch
  pub arrives : Arrives project grid standing row way reached
  pub levels : levels_left project grid standing (known_record row) reached
      ≡ levels_next project grid standing row row.length
  pub volumes : volumes_left project grid standing (known_record row) reached
      ≡ volumes_next project grid standing row row.length

-- So it is at the end of what was found without open ends, unless that is the end of the run.
abbrev pub ClosedEndIsUncut : Project → FoundOver → Type 0
ClosedEndIsUncut project found =
    found.standing.time ≢ project.times.duration
    → HasUncutEnd project (spanned found.pair) found.standing (spanning found.pair found.row)

-- What was found without open ends, with its seconds.
abbrev pub known_found : FoundOver → OpenFoundOver
known_found found = record {
  standing = known_standing found.standing;
  pair = found.pair;
  found = known_record found.row;
  next = known_standing found.next;
}
