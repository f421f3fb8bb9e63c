use Rattle.hyd_theorems_on_raises.proofs.RaisesInAnyOrder.{climb-start, every-order, rounds-spent}
use Rattle.hyd_theorems_on_raises.proofs.orders.Goals as goal

pub returns-clause-start : goal.returns-clause-start
returns-clause-start c = climb-start

pub returns-clause-rounds : goal.returns-clause-rounds
returns-clause-rounds c = every-order

pub returns-clause-spent : goal.returns-clause-spent
returns-clause-spent c = rounds-spent
