use Rattle.hyd_theorems_on_spread_checks.proofs.OneSpreadRun.{one_found_over, one_run_over, next_valid_over}
use Rattle.hyd_theorems_on_spread_checks.proofs.OneSpreadRun.{one_reports_over}
use Rattle.hyd_theorems_on_spread_checks.proofs.runs.Goals as goal

pub returns-clause-found : goal.returns-clause-found
returns-clause-found c = one_found_over

pub returns-clause-one : goal.returns-clause-one
returns-clause-one c = one_run_over

pub returns-clause-next : goal.returns-clause-next
returns-clause-next c = next_valid_over

pub returns-clause-reports : goal.returns-clause-reports
returns-clause-reports c = one_reports_over
