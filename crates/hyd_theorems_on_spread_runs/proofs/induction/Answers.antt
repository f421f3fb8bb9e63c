use Rattle.hyd_theorems_on_spread_runs.proofs.HistoriesAlongRuns.{every_history}
use Rattle.hyd_theorems_on_spread_runs.proofs.induction.Goals as goal

pub returns : goal.returns
returns c = every_history
