use Rattle.hyd_theorems_on_definitions.proofs.DecidedByEnds.{seconds_hold, seconds_nest}
use Rattle.hyd_theorems_on_definitions.proofs.tanks.seconds.Goals as goal

pub returns-clause-holds : goal.returns-clause-holds
returns-clause-holds c = seconds_hold

pub returns-clause-nests : goal.returns-clause-nests
returns-clause-nests c = seconds_nest
