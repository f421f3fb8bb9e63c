use Rattle.hyd_theorems_on_open_checks.proofs.OneOpenAnswer.{one_end, one_report}
use Rattle.hyd_theorems_on_open_checks.proofs.one_report.Goals as goal

pub returns-clause-end : goal.returns-clause-end
returns-clause-end c = one_end

pub returns-clause-report : goal.returns-clause-report
returns-clause-report c = λ project sound text. one_report project text sound
