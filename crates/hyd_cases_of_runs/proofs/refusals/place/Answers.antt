use Rattle.hyd_cases_of_runs.proofs.VillageRefusals.{other_number, other_time}
use Rattle.hyd_cases_of_runs.proofs.refusals.place.Goals as goal

pub returns-clause-number : goal.returns-clause-number
returns-clause-number c = other_number

pub returns-clause-time : goal.returns-clause-time
returns-clause-time c = other_time
