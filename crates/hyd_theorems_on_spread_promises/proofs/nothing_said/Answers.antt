use Rattle.hyd_theorems_on_spread_promises.proofs.OneNetwork.{nothing_said}
use Rattle.hyd_theorems_on_spread_promises.proofs.nothing_said.Goals as goal

pub returns : goal.returns
returns c = nothing_said
