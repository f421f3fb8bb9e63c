use Rattle.hyd_cases_of_runs.proofs.RaisesOnSmallGrid.{candidate_nearest, candidate_further, none_short, none_outside}
use Rattle.hyd_cases_of_runs.proofs.rounds.candidates.Goals as goal

pub returns-clause-nearest : goal.returns-clause-nearest
returns-clause-nearest c = candidate_nearest

pub returns-clause-further : goal.returns-clause-further
returns-clause-further c = candidate_further

pub returns-clause-short : goal.returns-clause-short
returns-clause-short c = none_short

pub returns-clause-outside : goal.returns-clause-outside
returns-clause-outside c = none_outside
