use Rattle.hyd_theorems_on_runs.proofs.RunRecords.{accepts}
use Rattle.hyd_theorems_on_runs.proofs.runs.acceptance.Goals as goal

pub returns : goal.returns
returns c = accepts
