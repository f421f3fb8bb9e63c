use Rattle.hyd_theorems_on_input.proofs.FaultOrNone.{fault_or_none}
use Rattle.hyd_theorems_on_input.proofs.fault_or_none.Goals as goal

pub returns : goal.returns
returns c = fault_or_none
