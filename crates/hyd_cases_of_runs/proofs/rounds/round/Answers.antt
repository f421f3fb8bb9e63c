use Rattle.hyd_cases_of_runs.proofs.RaisesOnSmallGrid.{round_up, round_down}
use Rattle.hyd_cases_of_runs.proofs.rounds.round.Goals as goal

pub returns-clause-up : goal.returns-clause-up
returns-clause-up c = round_up

pub returns-clause-down : goal.returns-clause-down
returns-clause-down c = round_down
