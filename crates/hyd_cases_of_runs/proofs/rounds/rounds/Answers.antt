use Rattle.hyd_cases_of_runs.proofs.RaisesOnSmallGrid.{rounds_up, rounds_down}
use Rattle.hyd_cases_of_runs.proofs.rounds.rounds.Goals as goal

pub returns-clause-up : goal.returns-clause-up
returns-clause-up c = rounds_up

pub returns-clause-down : goal.returns-clause-down
returns-clause-down c = rounds_down
