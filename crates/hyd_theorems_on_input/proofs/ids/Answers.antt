use Rattle.hyd_theorems_on_input.proofs.RowsToProject.{ids_right}
use Rattle.hyd_theorems_on_input.proofs.ids.Goals as goal

pub returns : goal.returns
returns c = ids_right
