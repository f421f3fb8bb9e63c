use Rattle.hyd_theorems_on_raises.proofs.RaisesAndTightVector.{raise-or-none, one-raise, start-raised, no-value}
use Rattle.hyd_theorems_on_raises.proofs.RaisesAndTightVector.{start-tight}
use Rattle.hyd_theorems_on_raises.proofs.raises.Goals as goal

pub returns-clause-found : goal.returns-clause-found
returns-clause-found c = raise-or-none

pub returns-clause-one : goal.returns-clause-one
returns-clause-one c = one-raise

pub returns-clause-start : goal.returns-clause-start
returns-clause-start c = start-raised

pub returns-clause-none : goal.returns-clause-none
returns-clause-none c = no-value

pub returns-clause-tight : goal.returns-clause-tight
returns-clause-tight c = start-tight
