use Rattle.hyd_theorems_on_definitions.proofs.PipeLaws.{positive-made}
use Rattle.hyd_theorems_on_power_laws.proofs.SharpEnds.{sharp-made}
use Rattle.hyd_theorems_on_power_laws.proofs.pipe_losses.Goals as goal

pub returns-clause-numbers : goal.returns-clause-numbers
returns-clause-numbers c = positive-made

pub returns-clause-sharp : goal.returns-clause-sharp
returns-clause-sharp c = sharp-made
