use Rattle.hyd_theorems_on_rereading.proofs.OneNetwork.{one_network}
use Rattle.hyd_theorems_on_rereading.proofs.one_network.Goals as goal

pub returns : goal.returns
returns c = one_network
