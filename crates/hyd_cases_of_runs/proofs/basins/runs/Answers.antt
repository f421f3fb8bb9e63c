use Rattle.hyd_cases_of_runs.proofs.BasinRun.{curved_run, spilling_run}
use Rattle.hyd_cases_of_runs.proofs.basins.runs.Goals as goal

pub returns-clause-curved : goal.returns-clause-curved
returns-clause-curved c = curved_run

pub returns-clause-spilling : goal.returns-clause-spilling
returns-clause-spilling c = spilling_run
