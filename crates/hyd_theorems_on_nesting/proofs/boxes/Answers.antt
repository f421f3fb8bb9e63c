use Rattle.hyd_theorems_on_nesting.proofs.NestedBoxes.{flow_inside, flow_ordered, inflow_inside, inflow_ordered}
use Rattle.hyd_theorems_on_nesting.proofs.InnerRecordsDecide.{stocks_within, stocks_there}
use Rattle.hyd_theorems_on_nesting.proofs.boxes.Goals as goal

pub returns-clause-flows : goal.returns-clause-flows
returns-clause-flows c = λ project standing grid outer inner nested l link at. (
  flow_inside project standing grid outer inner nested l link at,
  flow_ordered project standing grid outer inner
      nested l link at,
)

pub returns-clause-inflows : goal.returns-clause-inflows
returns-clause-inflows c = λ project standing grid outer inner nested k tank at. (
  inflow_inside project standing grid outer inner nested k tank at,
  inflow_ordered project standing grid outer inner
      nested k tank at,
)

pub returns-clause-stocks : goal.returns-clause-stocks
returns-clause-stocks c = λ project sound standing grid outer inner nested seconds k tank at. (
  stocks_within project sound standing grid outer inner nested seconds k tank at,
  stocks_there project sound standing grid outer inner nested seconds k tank at,
)
