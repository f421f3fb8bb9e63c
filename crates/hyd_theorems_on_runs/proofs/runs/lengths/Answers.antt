use Rattle.hyd_theorems_on_runs.proofs.OnePeriodMore.{after_start, some_length}
use Rattle.hyd_theorems_on_runs.proofs.runs.lengths.Goals as goal

pub returns-clause-clock : goal.returns-clause-clock
returns-clause-clock c = after_start

pub returns-clause-period : goal.returns-clause-period
returns-clause-period c = some_length
