use Rattle.hyd_theorems_on_runs.proofs.ReportLinesHold.{end_lines_hold}
use Rattle.hyd_theorems_on_runs.proofs.histories.end_lines.Goals as goal

pub returns : goal.returns
returns c = end_lines_hold
