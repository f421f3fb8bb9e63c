use Rattle.hyd_theorems_on_answers.proofs.OtherReadingsOpenly.{readings_accepted_openly, readings_report_openly}
use Rattle.hyd_theorems_on_answers.proofs.open_checks_after_rereading.readings.Goals as goal

pub returns-clause-accepted : goal.returns-clause-accepted
returns-clause-accepted c = readings_accepted_openly

pub returns-clause-report : goal.returns-clause-report
returns-clause-report c = readings_report_openly
