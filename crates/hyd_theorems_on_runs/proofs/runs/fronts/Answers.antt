use Rattle.hyd_theorems_on_runs.proofs.RunRecords.{breaks_off}
use Rattle.hyd_theorems_on_runs.proofs.runs.fronts.Goals as goal

pub returns : goal.returns
returns c = breaks_off
