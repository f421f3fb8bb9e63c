use Rattle.hyd_theorems_on_spread_reports.proofs.OneSpreadReport.{one_spread_report}
use Rattle.hyd_theorems_on_spread_reports.proofs.reports.Goals as goal

pub returns : goal.returns
returns c = one_spread_report
