use Rattle.hyd_theorems_on_raises.proofs.RaisesInAnyOrder.{start-leapt}
use Rattle.hyd_theorems_on_raises.proofs.leaps.Goals as goal

pub returns : goal.returns
returns c = start-leapt
