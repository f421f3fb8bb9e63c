use Rattle.hyd_cases_of_runs.proofs.RaisesOnSmallGrid.{tight_up, tight_down}
use Rattle.hyd_cases_of_runs.proofs.rounds.finished.Goals as goal

pub returns-clause-up : goal.returns-clause-up
returns-clause-up c = tight_up

pub returns-clause-down : goal.returns-clause-down
returns-clause-down c = tight_down
