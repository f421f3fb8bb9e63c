use Rattle.hyd_theorems_on_input.proofs.RowsToProject.{ends_right, sizes_right}
use Rattle.hyd_theorems_on_input.proofs.links.Goals as goal

pub returns-clause-ends : goal.returns-clause-ends
returns-clause-ends c = ends_right

pub returns-clause-sizes : goal.returns-clause-sizes
returns-clause-sizes c = sizes_right
