use Rattle.hyd_theorems_on_input.proofs.RowsToProject.{states_right}
use Rattle.hyd_theorems_on_input.proofs.states.Goals as goal

pub returns : goal.returns
returns c = states_right
