use Rattle.hyd_theorems_on_pressure_targets.proofs.OneWordAndEdge.{one-edge}
use Rattle.hyd_theorems_on_pressure_targets.proofs.edges.Goals as goal

pub returns : goal.returns
returns c = one-edge
