use Rattle.hyd_theorems_on_definitions.proofs.HeldFlows.{held_flow}
use Rattle.hyd_theorems_on_definitions.proofs.certificates.held_flows.Goals as goal

pub returns : goal.returns
returns c = record { flow = held_flow }
