use Rattle.hyd_theorems_on_rereading.proofs.OneNetwork.{one_network}
use Rattle.hyd_theorems_on_rereading.proofs.ValidRecordsWithoutSpare.{valid_records}
use Rattle.hyd_theorems_on_rereading.proofs.readings.Goals as goal

pub returns : goal.returns
returns c = λ rows p q f g. valid_records p q (one_network rows p q f g)
