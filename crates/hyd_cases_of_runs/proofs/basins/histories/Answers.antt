use Rattle.hyd_cases_of_runs.proofs.BasinHistory.{curved_history, spilling_history}
use Rattle.hyd_cases_of_runs.proofs.basins.histories.Goals as goal

pub returns-clause-curved : goal.returns-clause-curved
returns-clause-curved c = curved_history

pub returns-clause-spilling : goal.returns-clause-spilling
returns-clause-spilling c = spilling_history
