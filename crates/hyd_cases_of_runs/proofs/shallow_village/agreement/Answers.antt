use Rattle.hyd_cases_of_runs.proofs.ShallowHistory.{first_agrees, second_agrees}
use Rattle.hyd_cases_of_runs.proofs.shallow_village.agreement.Goals as goal

pub returns : goal.returns
returns c = (first_agrees, (second_agrees, tt))
