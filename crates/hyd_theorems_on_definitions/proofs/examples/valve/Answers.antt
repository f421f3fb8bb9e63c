use Rattle.hyd_theorems_on_definitions.proofs.WorkedExamples.{valve_at_least, valve_at_most}
use Rattle.hyd_theorems_on_definitions.proofs.examples.valve.Goals as goal

pub returns-clause-at_least : goal.returns-clause-at_least
returns-clause-at_least c = valve_at_least

pub returns-clause-at_most : goal.returns-clause-at_most
returns-clause-at_most c = valve_at_most
