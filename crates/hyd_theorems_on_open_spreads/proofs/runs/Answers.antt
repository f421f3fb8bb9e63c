use Rattle.hyd_theorems_on_open_spreads.proofs.HistoriesOverPairs.{every-keeping-history}
use Rattle.hyd_theorems_on_open_spreads.proofs.runs.Goals as goal

pub returns : goal.returns
returns c = every-keeping-history
