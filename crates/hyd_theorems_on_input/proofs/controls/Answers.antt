use Rattle.hyd_theorems_on_input.proofs.RowsToProject.{controls_right}
use Rattle.hyd_theorems_on_input.proofs.controls.Goals as goal

pub returns : goal.returns
returns c = controls_right
