use Rattle.hyd_theorems_on_definitions.proofs.OneEndOfPeriod.{one_end}
use Rattle.hyd_theorems_on_definitions.proofs.determined.ends.Goals as goal

pub returns : goal.returns
returns c = one_end
