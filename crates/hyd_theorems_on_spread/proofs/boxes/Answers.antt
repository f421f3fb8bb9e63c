use Rattle.hyd_theorems_on_spread.proofs.BoxesWithin.{heads-between, flow-within}
use Rattle.hyd_theorems_on_spread.proofs.boxes.Goals as goal

pub returns-clause-heads : goal.returns-clause-heads
returns-clause-heads c = heads-between

pub returns-clause-flows : goal.returns-clause-flows
returns-clause-flows c = flow-within
