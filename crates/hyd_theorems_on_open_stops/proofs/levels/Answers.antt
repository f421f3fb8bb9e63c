use Rattle.hyd_theorems_on_open_stops.proofs.NestedEnds.{level_inside, inner_states, inner_controls}
use Rattle.hyd_theorems_on_open_stops.proofs.levels.Goals as goal

pub returns-clause-inside : goal.returns-clause-inside
returns-clause-inside c = level_inside

pub returns-clause-states : goal.returns-clause-states
returns-clause-states c = inner_states

pub returns-clause-controls : goal.returns-clause-controls
returns-clause-controls c = inner_controls
