use Rattle.hyd_cases_of_runs.proofs.HillTownSound.{sound}
use Rattle.hyd_cases_of_runs.proofs.hill_town.network.Goals as goal

pub returns : goal.returns
returns c = sound
