use Rattle.hyd_theorems_on_definitions.proofs.TwoSides.{lower-below}
use Rattle.hyd_theorems_on_nesting.proofs.sides.Goals as goal

pub returns : goal.returns
returns c = lower-below
