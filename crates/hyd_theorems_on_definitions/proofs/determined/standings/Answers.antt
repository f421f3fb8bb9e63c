use Rattle.hyd_theorems_on_definitions.proofs.OneStandingAndTightVector.{one_standing}
use Rattle.hyd_theorems_on_definitions.proofs.determined.standings.Goals as goal

pub returns : goal.returns
returns c = one_standing
