use Rattle.hyd_theorems_on_input.proofs.RowsToProject.{all_right}
use Rattle.hyd_theorems_on_input.proofs.sound.Goals as goal

pub returns : goal.returns
returns c = all_right
