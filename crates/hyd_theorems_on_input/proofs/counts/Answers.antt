use Rattle.hyd_theorems_on_input.proofs.RowsToProject.{counts_right}
use Rattle.hyd_theorems_on_input.proofs.counts.Goals as goal

pub returns : goal.returns
returns c = counts_right
