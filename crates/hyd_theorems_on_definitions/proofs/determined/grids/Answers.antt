use Rattle.hyd_theorems_on_definitions.proofs.OneGrid.{one_grid}
use Rattle.hyd_theorems_on_definitions.proofs.determined.grids.Goals as goal

pub returns : goal.returns
returns c = one_grid
