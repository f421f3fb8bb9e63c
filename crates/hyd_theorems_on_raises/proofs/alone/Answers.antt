use Rattle.hyd_theorems_on_raises.proofs.NoLinkBetweenJunctions.{one-round}
use Rattle.hyd_theorems_on_raises.proofs.alone.Goals as goal

pub returns : goal.returns
returns c = one-round
