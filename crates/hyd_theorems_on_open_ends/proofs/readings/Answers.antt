use Rattle.hyd_theorems_on_open_ends.proofs.RulesOverStarts.{between_over}
use Rattle.hyd_theorems_on_open_ends.proofs.readings.Goals as goal

pub returns : goal.returns
returns c = between_over
