use Rattle.hyd_theorems_on_spread.proofs.ProductsInOrder.{products-enclose}
use Rattle.hyd_theorems_on_spread.proofs.EndsTaken.{end_nodes, ends-within, ends-taken, outermost-taken}
use Rattle.hyd_theorems_on_spread.proofs.ends.Goals as goal

pub returns-clause-enclosed : goal.returns-clause-enclosed
returns-clause-enclosed c = products-enclose

pub returns-clause-taken : goal.returns-clause-taken
returns-clause-taken c = λ project sound spread is time side. (
  end_nodes project spread time side,
  (ends-within project sound spread is time side, ends-taken project sound spread is time side),
)

pub returns-clause-grids : goal.returns-clause-grids
returns-clause-grids c = λ project sound spread is without side time levels tanks links grid outermost. (
  end_nodes project spread time side,
  (
    ends-within project sound spread is time side,
    outermost-taken project sound spread is time side without levels tanks links grid outermost,
  ),
)
