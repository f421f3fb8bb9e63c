use Rattle.hyd_theorems_on_input.proofs.RowsToProject.{rules_right}
use Rattle.hyd_theorems_on_input.proofs.rules.Goals as goal

pub returns : goal.returns
returns c = rules_right
