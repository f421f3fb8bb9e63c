use Rattle.hyd_theorems_on_tight_runs.proofs.TwoRuns.{fronts, record_fronts}
use Rattle.hyd_theorems_on_tight_runs.proofs.fronts.Goals as goal

pub returns-clause-periods : goal.returns-clause-periods
returns-clause-periods c = fronts

pub returns-clause-records : goal.returns-clause-records
returns-clause-records c = record_fronts
