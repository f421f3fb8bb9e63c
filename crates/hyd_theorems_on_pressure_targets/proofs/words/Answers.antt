use Rattle.hyd_theorems_on_pressure_targets.proofs.OneWordAndEdge.{shown-by-lower, shown-by-upper, one-word}
use Rattle.hyd_theorems_on_pressure_targets.proofs.words.Goals as goal

pub returns-clause-safe : goal.returns-clause-safe
returns-clause-safe c = shown-by-lower

pub returns-clause-low : goal.returns-clause-low
returns-clause-low c = shown-by-upper

pub returns-clause-one : goal.returns-clause-one
returns-clause-one c = one-word
