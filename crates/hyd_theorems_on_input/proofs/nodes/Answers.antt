use Rattle.hyd_theorems_on_input.proofs.RowsToProject.{junctions_right, reservoirs_right, tanks_right}
use Rattle.hyd_theorems_on_input.proofs.nodes.Goals as goal

pub returns-clause-junctions : goal.returns-clause-junctions
returns-clause-junctions c = junctions_right

pub returns-clause-reservoirs : goal.returns-clause-reservoirs
returns-clause-reservoirs c = reservoirs_right

pub returns-clause-tanks : goal.returns-clause-tanks
returns-clause-tanks c = tanks_right
