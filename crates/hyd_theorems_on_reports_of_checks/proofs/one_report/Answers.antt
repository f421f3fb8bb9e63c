use Rattle.hyd_theorems_on_reports_of_checks.proofs.OneReason.{one_reason}
use Rattle.hyd_theorems_on_reports_of_checks.proofs.OneReasonNaming.{one_refusal_naming}
use Rattle.hyd_theorems_on_reports_of_checks.proofs.OneAnswer.{same_end, same_report}
use Rattle.hyd_theorems_on_reports_of_checks.proofs.one_report.Goals as goal

pub returns-clause-end : goal.returns-clause-end
returns-clause-end c = same_end

pub returns-clause-reason : goal.returns-clause-reason
returns-clause-reason c = one_reason

pub returns-clause-reason_with_flows : goal.returns-clause-reason_with_flows
returns-clause-reason_with_flows c = λ project sound text printed other a b.
    (one_refusal_naming project sound text printed other a b).0

pub returns-clause-report : goal.returns-clause-report
returns-clause-report c = same_report
