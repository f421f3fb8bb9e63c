use Rattle.hyd_theorems_on_definitions.proofs.OneLength.{one_length}
use Rattle.hyd_theorems_on_definitions.proofs.determined.lengths.Goals as goal

pub returns : goal.returns
returns c = one_length
