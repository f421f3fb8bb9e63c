use Rattle.hyd_theorems_on_spread_refusals.proofs.OneOutermostGrid.{one_outermost, one_pair}
use Rattle.hyd_theorems_on_spread_refusals.proofs.outermost_grids.Goals as goal

pub returns-clause-grid : goal.returns-clause-grid
returns-clause-grid c = one_outermost

pub returns-clause-pair : goal.returns-clause-pair
returns-clause-pair c = one_pair
