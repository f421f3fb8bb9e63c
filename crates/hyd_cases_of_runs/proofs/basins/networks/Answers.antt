use Rattle.hyd_cases_of_runs.proofs.BasinSound.{curved_sound, spilling_sound}
use Rattle.hyd_cases_of_runs.proofs.basins.networks.Goals as goal

pub returns-clause-curved : goal.returns-clause-curved
returns-clause-curved c = curved_sound

pub returns-clause-spilling : goal.returns-clause-spilling
returns-clause-spilling c = spilling_sound
