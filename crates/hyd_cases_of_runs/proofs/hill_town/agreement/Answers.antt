use Rattle.hyd_theorems_on_runs.proofs.HistoriesAlongRuns.{every_history}
use Rattle.hyd_cases_of_runs.proofs.HillTownRun.{run}
use Rattle.hyd_cases_of_runs.proofs.HillTownSound.{sound}
use Rattle.hyd_cases_of_runs.proofs.hill_town.agreement.Goals as goal

pub returns : goal.returns
returns c = every_history _ sound _ _ run
