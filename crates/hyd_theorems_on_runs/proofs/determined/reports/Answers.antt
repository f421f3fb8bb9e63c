use Rattle.hyd_theorems_on_runs.proofs.OneReport.{one_report}
use Rattle.hyd_theorems_on_runs.proofs.determined.reports.Goals as goal

pub returns : goal.returns
returns c = one_report
