use Rattle.hyd_theorems_on_nesting.proofs.GridsExist.{grid_is}
use Rattle.hyd_theorems_on_nesting.proofs.grids.Goals as goal

pub returns : goal.returns
returns c = grid_is
