use Rattle.hyd_theorems_on_pressure_targets.proofs.WordsHold.{word-holds}
use Rattle.hyd_theorems_on_pressure_targets.proofs.closures.Goals as goal

pub returns : goal.returns
returns c = word-holds
