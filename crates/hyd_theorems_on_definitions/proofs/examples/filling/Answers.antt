use Rattle.hyd_theorems_on_definitions.proofs.WorkedExamples.{first_filled}
use Rattle.hyd_theorems_on_definitions.proofs.examples.filling.Goals as goal

pub returns : goal.returns
returns c = first_filled
