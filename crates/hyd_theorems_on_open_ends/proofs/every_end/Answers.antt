use Rattle.hyd_theorems_on_open_ends.proofs.StopsAtTightVectors.{every_fate}
use Rattle.hyd_theorems_on_open_ends.proofs.every_end.Goals as goal

pub returns : goal.returns
returns c = every_fate
