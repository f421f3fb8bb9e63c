use Rattle.hyd_theorems_on_input.proofs.RowsToProject.{options_right}
use Rattle.hyd_theorems_on_input.proofs.options.Goals as goal

pub returns : goal.returns
returns c = options_right
