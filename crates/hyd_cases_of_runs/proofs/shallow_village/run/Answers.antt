use Rattle.hyd_cases_of_runs.proofs.ShallowRun.{is_run}
use Rattle.hyd_cases_of_runs.proofs.shallow_village.run.Goals as goal

pub returns : goal.returns
returns c = is_run
