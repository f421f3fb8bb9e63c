use Rattle.hyd_theorems_on_definitions.proofs.PinnedTankInflows.{inflow_lies}
use Rattle.hyd_theorems_on_definitions.proofs.certificates.inflows.Goals as goal

pub returns : goal.returns
returns c = record { inflow = inflow_lies }
