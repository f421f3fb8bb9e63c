use Rattle.hyd_theorems_on_input.proofs.RowsToProject.{patterns_right}
use Rattle.hyd_theorems_on_input.proofs.patterns.Goals as goal

pub returns : goal.returns
returns c = patterns_right
