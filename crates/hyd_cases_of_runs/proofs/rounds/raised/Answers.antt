use Rattle.hyd_cases_of_runs.proofs.RaisesOnSmallGrid.{first_up, second_up, first_down, second_down}
use Rattle.hyd_cases_of_runs.proofs.rounds.raised.Goals as goal

pub returns-clause-first_up : goal.returns-clause-first_up
returns-clause-first_up c = first_up

pub returns-clause-second_up : goal.returns-clause-second_up
returns-clause-second_up c = second_up

pub returns-clause-first_down : goal.returns-clause-first_down
returns-clause-first_down c = first_down

pub returns-clause-second_down : goal.returns-clause-second_down
returns-clause-second_down c = second_down
