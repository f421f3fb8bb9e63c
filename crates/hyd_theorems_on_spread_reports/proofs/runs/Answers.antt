use Rattle.hyd_theorems_on_spread_reports.proofs.EveryLineHoldsWithin.{every_line_within}
use Rattle.hyd_theorems_on_spread_reports.proofs.runs.Goals as goal

pub returns : goal.returns
returns c = every_line_within
