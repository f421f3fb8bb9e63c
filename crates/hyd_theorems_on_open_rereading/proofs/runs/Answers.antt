use Rattle.hyd_theorems_on_open_rereading.proofs.OpenRunsWithoutSpare.{open_runs, open_reports}
use Rattle.hyd_theorems_on_open_rereading.proofs.runs.Goals as goal

pub returns-clause-run : goal.returns-clause-run
returns-clause-run c = open_runs

pub returns-clause-reports : goal.returns-clause-reports
returns-clause-reports c = open_reports
