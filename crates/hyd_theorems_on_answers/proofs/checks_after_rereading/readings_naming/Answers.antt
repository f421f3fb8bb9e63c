use Rattle.hyd_theorems_on_answers.proofs.OtherReadingsNaming.{readings_accepted_naming, readings_report_naming}
use Rattle.hyd_theorems_on_answers.proofs.checks_after_rereading.readings_naming.Goals as goal

pub returns-clause-accepted : goal.returns-clause-accepted
returns-clause-accepted c = readings_accepted_naming

pub returns-clause-report : goal.returns-clause-report
returns-clause-report c = readings_report_naming
