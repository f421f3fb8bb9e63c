use Rattle.hyd_theorems_on_runs.proofs.ReportsExist.{report_is}
use Rattle.hyd_theorems_on_runs.proofs.going_on.reports.Goals as goal

pub returns : goal.returns
returns c = λ project sound grid standing row next kept tidy at leads. report_is project sound grid standing row kept
    tidy at next leads
