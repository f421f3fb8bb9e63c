use Rattle.hyd_theorems_on_runs.proofs.HistoriesAlongRuns.{every_history}
use Rattle.hyd_theorems_on_runs.proofs.histories.induction.Goals as goal

pub returns : goal.returns
returns c = every_history
