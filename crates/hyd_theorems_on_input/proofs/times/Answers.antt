use Rattle.hyd_theorems_on_input.proofs.RowsToProject.{times_right}
use Rattle.hyd_theorems_on_input.proofs.times.Goals as goal

pub returns : goal.returns
returns c = times_right
