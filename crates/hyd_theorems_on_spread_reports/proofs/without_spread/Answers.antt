use Rattle.hyd_theorems_on_spread_reports.proofs.ReportsAlone.{report_alone, report_over}
use Rattle.hyd_theorems_on_spread_reports.proofs.without_spread.Goals as goal

pub returns : goal.returns
returns c = λ project grid standing found lines. (
  report_alone project grid standing found lines,
  report_over project grid standing found lines,
)
