use Rattle.hyd_theorems_on_input.proofs.RowsToProject.{made_right}
use Rattle.hyd_theorems_on_input.proofs.made.Goals as goal

pub returns : goal.returns
returns c = made_right
