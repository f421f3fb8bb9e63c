use Rattle.hyd_theorems_on_rereading.proofs.HistoriesWithoutSpare.{histories}
use Rattle.hyd_theorems_on_rereading.proofs.histories.Goals as goal

pub returns : goal.returns
returns c = histories
