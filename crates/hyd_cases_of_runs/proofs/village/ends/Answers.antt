use Rattle.hyd_cases_of_runs.proofs.VillageEnds.{first_ends, second_ends, third_ends, fourth_ends}
use Rattle.hyd_cases_of_runs.proofs.village.ends.Goals as goal

pub returns-clause-first : goal.returns-clause-first
returns-clause-first c = first_ends

pub returns-clause-second : goal.returns-clause-second
returns-clause-second c = second_ends

pub returns-clause-third : goal.returns-clause-third
returns-clause-third c = third_ends

pub returns-clause-fourth : goal.returns-clause-fourth
returns-clause-fourth c = fourth_ends
