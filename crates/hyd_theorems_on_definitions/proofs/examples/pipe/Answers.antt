use Rattle.hyd_theorems_on_definitions.proofs.WorkedExamples.{pipe_at_most, pipe_at_least}
use Rattle.hyd_theorems_on_definitions.proofs.examples.pipe.Goals as goal

pub returns-clause-at_most : goal.returns-clause-at_most
returns-clause-at_most c = pipe_at_most

pub returns-clause-at_least : goal.returns-clause-at_least
returns-clause-at_least c = pipe_at_least
