use Rattle.hyd_theorems_on_runs.proofs.RunsGoOnOrStop.{run_keeps, run_goes_on}
use Rattle.hyd_theorems_on_runs.proofs.going_on.runs.Goals as goal

pub returns-clause-keep : goal.returns-clause-keep
returns-clause-keep c = run_keeps

pub returns-clause-go_on : goal.returns-clause-go_on
returns-clause-go_on c = run_goes_on
