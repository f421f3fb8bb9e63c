use Rattle.hyd_theorems_on_nesting.proofs.NoStopWhereValid.{no_stop}
use Rattle.hyd_theorems_on_nesting.proofs.stops.Goals as goal

pub returns : goal.returns
returns c = no_stop
