use Rattle.hyd_theorems_on_flows.proofs.FlowsOfHistories.{every_flow}
use Rattle.hyd_theorems_on_flows.proofs.flows_of_histories.Goals as goal

pub returns : goal.returns
returns c = every_flow
