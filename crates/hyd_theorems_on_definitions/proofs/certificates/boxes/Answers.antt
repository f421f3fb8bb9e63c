use Rattle.hyd_theorems_on_definitions.proofs.FlowsInBoxes.{heads_between, flow_lies, outflow_lies}
use Rattle.hyd_theorems_on_definitions.proofs.certificates.boxes.Goals as goal

pub returns-clause-heads : goal.returns-clause-heads
returns-clause-heads c = heads_between

pub returns-clause-flows : goal.returns-clause-flows
returns-clause-flows c = flow_lies

pub returns-clause-outflows : goal.returns-clause-outflows
returns-clause-outflows c = outflow_lies
