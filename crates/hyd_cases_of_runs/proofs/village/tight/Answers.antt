use Rattle.hyd_cases_of_runs.proofs.VillageTight.{first_tight, second_tight, third_tight, fourth_tight, fifth_tight}
use Rattle.hyd_cases_of_runs.proofs.village.tight.Goals as goal

pub returns-clause-first : goal.returns-clause-first
returns-clause-first c = first_tight

pub returns-clause-second : goal.returns-clause-second
returns-clause-second c = second_tight

pub returns-clause-third : goal.returns-clause-third
returns-clause-third c = third_tight

pub returns-clause-fourth : goal.returns-clause-fourth
returns-clause-fourth c = fourth_tight

pub returns-clause-fifth : goal.returns-clause-fifth
returns-clause-fifth c = fifth_tight
