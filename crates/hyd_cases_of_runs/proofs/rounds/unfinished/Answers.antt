use Rattle.hyd_cases_of_runs.proofs.RaisesOnSmallGrid.{not_yet_up, not_yet_down}
use Rattle.hyd_cases_of_runs.proofs.rounds.unfinished.Goals as goal

pub returns-clause-up : goal.returns-clause-up
returns-clause-up c = not_yet_up

pub returns-clause-down : goal.returns-clause-down
returns-clause-down c = not_yet_down
