use Rattle.hyd_lemmas.proofs.OneCapacity.{one_capacity}
use Rattle.hyd_theorems_on_definitions.proofs.determined.capacities.Goals as goal

pub returns : goal.returns
returns c = one_capacity
