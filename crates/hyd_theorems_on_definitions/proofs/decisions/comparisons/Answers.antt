use Rattle.hyd_theorems_on_definitions.proofs.DecidedByEnds.{compare_tells, control_tells}
use Rattle.hyd_theorems_on_definitions.proofs.decisions.comparisons.Goals as goal

pub returns-clause-values : goal.returns-clause-values
returns-clause-values c = compare_tells

pub returns-clause-controls : goal.returns-clause-controls
returns-clause-controls c = control_tells
