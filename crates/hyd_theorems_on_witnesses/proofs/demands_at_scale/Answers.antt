use Rattle.hyd_theorems_on_witnesses.proofs.MetAssignments.{demand-follows}
use Rattle.hyd_theorems_on_witnesses.proofs.demands_at_scale.Goals as goal

pub returns : goal.returns
returns c = demand-follows
