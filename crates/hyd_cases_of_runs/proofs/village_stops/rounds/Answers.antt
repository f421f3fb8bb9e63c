use Rattle.std.proofs.Common.{refl}
use Rattle.std.specs.Fmt.{digits}
use Rattle.hyd_cases_of_runs.proofs.VillageStops.{rounds_stop}
use Rattle.hyd_cases_of_runs.proofs.village_stops.rounds.Goals as goal

pub returns-clause-stops : goal.returns-clause-stops
returns-clause-stops c = record { period_is = refl; holds = (refl, rounds_stop) }

pub returns-clause-line : goal.returns-clause-line
unfolding digits
returns-clause-line c = refl
