use Rattle.hyd_theorems_on_answers.proofs.OtherReadings.{readings_accepted, readings_report}
use Rattle.hyd_theorems_on_answers.proofs.checks_after_rereading.readings.Goals as goal

pub returns-clause-accepted : goal.returns-clause-accepted
returns-clause-accepted c = readings_accepted

pub returns-clause-report : goal.returns-clause-report
returns-clause-report c = readings_report
