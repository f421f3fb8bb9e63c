use Rattle.hyd_theorems_on_definitions.proofs.WorkedExamples.{capped_at_least, capped_at_most}
use Rattle.hyd_theorems_on_definitions.proofs.examples.control_valve.Goals as goal

pub returns-clause-at_least : goal.returns-clause-at_least
returns-clause-at_least c = capped_at_least

pub returns-clause-at_most : goal.returns-clause-at_most
returns-clause-at_most c = capped_at_most
