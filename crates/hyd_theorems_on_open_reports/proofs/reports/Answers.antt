use Rattle.hyd_theorems_on_open_reports.proofs.OneOpenReport.{one_open_report}
use Rattle.hyd_theorems_on_open_reports.proofs.reports.Goals as goal

pub returns : goal.returns
returns c = one_open_report
