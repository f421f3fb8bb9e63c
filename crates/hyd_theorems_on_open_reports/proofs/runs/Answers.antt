use Rattle.hyd_theorems_on_open_reports.proofs.EveryLineHolds.{every_line}
use Rattle.hyd_theorems_on_open_reports.proofs.runs.Goals as goal

pub returns : goal.returns
returns c = every_line
