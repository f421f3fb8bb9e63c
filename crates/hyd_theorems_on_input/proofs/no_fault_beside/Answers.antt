use Rattle.hyd_theorems_on_input.proofs.OneFault.{no_fault_beside}
use Rattle.hyd_theorems_on_input.proofs.no_fault_beside.Goals as goal

pub returns : goal.returns
returns c = no_fault_beside
