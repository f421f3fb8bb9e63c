use Rattle.hyd_theorems_on_open_checks.proofs.OneOpenRun.{one_run, next_valid, one_reports}
use Rattle.hyd_theorems_on_open_checks.proofs.runs.Goals as goal

pub returns-clause-one : goal.returns-clause-one
returns-clause-one c = one_run

pub returns-clause-next : goal.returns-clause-next
returns-clause-next c = next_valid

pub returns-clause-reports : goal.returns-clause-reports
returns-clause-reports c = one_reports
