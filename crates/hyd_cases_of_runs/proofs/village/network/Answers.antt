use Rattle.hyd_cases_of_runs.proofs.VillageSound.{sound}
use Rattle.hyd_cases_of_runs.proofs.village.network.Goals as goal

pub returns : goal.returns
returns c = sound
