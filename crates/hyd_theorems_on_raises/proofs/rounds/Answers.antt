use Rattle.hyd_theorems_on_raises.proofs.RaisesInAnyOrder.{one-reached, spent-nearer}
use Rattle.hyd_theorems_on_raises.proofs.rounds.Goals as goal

pub returns-clause-reached : goal.returns-clause-reached
returns-clause-reached c = one-reached

pub returns-clause-nearer : goal.returns-clause-nearer
returns-clause-nearer c = spent-nearer
