use Rattle.hyd_theorems_on_spread_checks.proofs.OneSpreadAnswer.{one_end_over, one_report_over}
use Rattle.hyd_theorems_on_spread_checks.proofs.one_report.Goals as goal

pub returns-clause-end : goal.returns-clause-end
returns-clause-end c = one_end_over

pub returns-clause-report : goal.returns-clause-report
returns-clause-report c = λ project sound spread text. one_report_over project spread text sound
