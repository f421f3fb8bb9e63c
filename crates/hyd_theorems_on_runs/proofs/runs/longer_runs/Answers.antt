use Rattle.hyd_theorems_on_runs.proofs.OnePeriodMore.{run_more, valid_more}
use Rattle.hyd_theorems_on_runs.proofs.runs.longer_runs.Goals as goal

pub returns-clause-runs : goal.returns-clause-runs
returns-clause-runs c = run_more

pub returns-clause-records : goal.returns-clause-records
returns-clause-records c = valid_more
