use Rattle.hyd_theorems_on_answers.proofs.OtherReadings.{report}
use Rattle.hyd_theorems_on_answers.proofs.OtherReadingsNaming.{all_accepted, report_naming}
use Rattle.hyd_theorems_on_answers.proofs.checks_after_rereading.checks.Goals as goal

pub returns-clause-accepted : goal.returns-clause-accepted
returns-clause-accepted c = all_accepted

pub returns-clause-report : goal.returns-clause-report
returns-clause-report c = report

pub returns-clause-report_with_flows : goal.returns-clause-report_with_flows
returns-clause-report_with_flows c = report_naming
