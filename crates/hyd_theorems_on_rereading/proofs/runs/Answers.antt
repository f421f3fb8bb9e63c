use Rattle.hyd_theorems_on_rereading.proofs.RunsWithoutSpare.{runs, reports}
use Rattle.hyd_theorems_on_rereading.proofs.runs.Goals as goal

pub returns-clause-run : goal.returns-clause-run
returns-clause-run c = runs

pub returns-clause-report : goal.returns-clause-report
returns-clause-report c = reports
