use Rattle.hyd_theorems_on_definitions.proofs.ComparisonPrinciple.{below_main, above_main}
use Rattle.hyd_theorems_on_definitions.proofs.certificates.comparison.Goals as goal

pub returns-clause-above : goal.returns-clause-above
returns-clause-above c = below_main

pub returns-clause-below : goal.returns-clause-below
returns-clause-below c = above_main
