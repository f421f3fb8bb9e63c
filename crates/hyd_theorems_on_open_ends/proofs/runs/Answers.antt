use Rattle.hyd_theorems_on_open_ends.proofs.HistoriesOverOpenEnds.{every_keeping_history}
use Rattle.hyd_theorems_on_open_ends.proofs.runs.Goals as goal

pub returns : goal.returns
returns c = every_keeping_history
