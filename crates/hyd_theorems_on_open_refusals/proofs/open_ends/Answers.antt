use Rattle.hyd_theorems_on_open_refusals.proofs.OneOpenRefusal.{none_ends}
use Rattle.hyd_theorems_on_open_refusals.proofs.open_ends.Goals as goal

pub returns : goal.returns
returns c = none_ends
