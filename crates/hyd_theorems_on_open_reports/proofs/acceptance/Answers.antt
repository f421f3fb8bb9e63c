use Rattle.hyd_theorems_on_open_reports.proofs.EveryLineHolds.{told_again}
use Rattle.hyd_theorems_on_open_reports.proofs.acceptance.Goals as goal

pub returns : goal.returns
returns c = told_again
