use Rattle.hyd_theorems_on_raises.proofs.RaisesAndTightVector.{tight-or-none}
use Rattle.hyd_theorems_on_raises.proofs.RaisesInAnyOrder.{nearer-of-two}
use Rattle.hyd_theorems_on_raises.proofs.tight.Goals as goal

pub returns-clause-found : goal.returns-clause-found
returns-clause-found c = tight-or-none

pub returns-clause-nearer : goal.returns-clause-nearer
returns-clause-nearer c = nearer-of-two
