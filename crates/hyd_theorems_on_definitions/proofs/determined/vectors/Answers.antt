use Rattle.hyd_theorems_on_definitions.proofs.OneStandingAndTightVector.{one_vector}
use Rattle.hyd_theorems_on_definitions.proofs.determined.vectors.Goals as goal

pub returns : goal.returns
returns c = one_vector
