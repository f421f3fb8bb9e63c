use Rattle.hyd_theorems_on_definitions.proofs.DecidedByEnds.{reached_may, must_reached}
use Rattle.hyd_theorems_on_definitions.proofs.decisions.events.Goals as goal

pub returns-clause-may : goal.returns-clause-may
returns-clause-may c = reached_may

pub returns-clause-must : goal.returns-clause-must
returns-clause-must c = must_reached
