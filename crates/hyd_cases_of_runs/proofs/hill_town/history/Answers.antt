use Rattle.hyd_cases_of_runs.proofs.HillTownHistory.{history}
use Rattle.hyd_cases_of_runs.proofs.hill_town.history.Goals as goal

pub returns : goal.returns
returns c = history
