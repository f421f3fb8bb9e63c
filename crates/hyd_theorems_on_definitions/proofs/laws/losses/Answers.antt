use Rattle.hyd_theorems_on_definitions.proofs.LossLaws.{IsLossLaw-origin}
use Rattle.hyd_theorems_on_definitions.proofs.PipeLaws.{IsLossLaw-pipe}
use Rattle.hyd_theorems_on_definitions.proofs.laws.losses.Goals as goal

pub returns-clause-each : goal.returns-clause-each
returns-clause-each c = IsLossLaw-origin

pub returns-clause-pipes : goal.returns-clause-pipes
returns-clause-pipes c = IsLossLaw-pipe
