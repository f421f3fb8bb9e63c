use Rattle.hyd_theorems_on_runs.proofs.OnePeriodMore.{history_more, history_front}
use Rattle.hyd_theorems_on_runs.proofs.runs.histories.Goals as goal

pub returns-clause-longer : goal.returns-clause-longer
returns-clause-longer c = history_more

pub returns-clause-front : goal.returns-clause-front
returns-clause-front c = history_front
