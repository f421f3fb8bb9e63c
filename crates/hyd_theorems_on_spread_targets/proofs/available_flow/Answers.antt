use Rattle.hyd_theorems_on_spread_targets.proofs.EdgesHoldWithin.{edge-enough, edge-too-much}
use Rattle.hyd_theorems_on_spread_targets.proofs.available_flow.Goals as goal

pub returns-clause-enough : goal.returns-clause-enough
returns-clause-enough c = edge-enough

pub returns-clause-too_much : goal.returns-clause-too_much
returns-clause-too_much c = edge-too-much
