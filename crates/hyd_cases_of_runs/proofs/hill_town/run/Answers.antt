use Rattle.hyd_cases_of_runs.proofs.HillTownRun.{run}
use Rattle.hyd_cases_of_runs.proofs.hill_town.run.Goals as goal

pub returns : goal.returns
returns c = run
