use Rattle.hyd_theorems_on_definitions.proofs.WorkedExamples.{pattern_demands}
use Rattle.hyd_theorems_on_definitions.proofs.examples.demands.Goals as goal

pub returns : goal.returns
returns c = pattern_demands
