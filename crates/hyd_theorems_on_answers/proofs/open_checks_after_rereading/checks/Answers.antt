use Rattle.hyd_theorems_on_answers.proofs.OtherReadingsOpenly.{accepted_openly, report_openly}
use Rattle.hyd_theorems_on_answers.proofs.open_checks_after_rereading.checks.Goals as goal

pub returns-clause-accepted : goal.returns-clause-accepted
returns-clause-accepted c = accepted_openly

pub returns-clause-report : goal.returns-clause-report
returns-clause-report c = report_openly
