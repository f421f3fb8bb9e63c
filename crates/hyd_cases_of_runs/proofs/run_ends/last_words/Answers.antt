use Rattle.std.proofs.Common.{refl}
use Rattle.std.specs.Fmt.{digits}
use Rattle.hyd_cases_of_runs.proofs.run_ends.last_words.Goals as goal

pub returns-clause-finished : goal.returns-clause-finished
returns-clause-finished c = refl

pub returns-clause-accepted : goal.returns-clause-accepted
unfolding digits
returns-clause-accepted c = refl
