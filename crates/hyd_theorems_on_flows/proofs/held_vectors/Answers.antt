use Rattle.hyd_theorems_on_flows.proofs.HeldVectors.{held_drawn, held_start}
use Rattle.hyd_theorems_on_flows.proofs.held_vectors.Goals as goal

pub returns-clause-drawn : goal.returns-clause-drawn
returns-clause-drawn c = held_drawn

pub returns-clause-start : goal.returns-clause-start
returns-clause-start c = held_start
