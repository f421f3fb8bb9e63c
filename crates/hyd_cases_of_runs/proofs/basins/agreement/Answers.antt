use Rattle.hyd_theorems_on_runs.proofs.HistoriesAlongRuns.{every_history}
use Rattle.hyd_cases_of_runs.proofs.BasinRun.{curved_run, spilling_run}
use Rattle.hyd_cases_of_runs.proofs.BasinSound.{curved_sound, spilling_sound}
use Rattle.hyd_cases_of_runs.proofs.BasinHistory.{curved_agrees, spilling_agrees}
use Rattle.hyd_cases_of_runs.proofs.basins.agreement.Goals as goal

pub returns-clause-curved : goal.returns-clause-curved
returns-clause-curved c = curved_agrees

pub returns-clause-spilling : goal.returns-clause-spilling
returns-clause-spilling c = spilling_agrees

pub returns-clause-curved_every : goal.returns-clause-curved_every
returns-clause-curved_every c = every_history _ curved_sound _ _ curved_run

pub returns-clause-spilling_every : goal.returns-clause-spilling_every
returns-clause-spilling_every c = every_history _ spilling_sound _ _ spilling_run
