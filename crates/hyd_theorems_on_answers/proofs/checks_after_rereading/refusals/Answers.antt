use Rattle.hyd_theorems_on_answers.proofs.OtherReadings.{of_records}
use Rattle.hyd_theorems_on_answers.proofs.OtherReadingsNaming.{not_refused}
use Rattle.hyd_theorems_on_answers.proofs.checks_after_rereading.refusals.Goals as goal

pub returns-clause-of_runs : goal.returns-clause-of_runs
returns-clause-of_runs c = not_refused

pub returns-clause-of_records : goal.returns-clause-of_records
returns-clause-of_records c = of_records
