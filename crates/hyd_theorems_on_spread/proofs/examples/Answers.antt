use Rattle.std.proofs.Common.{refl}
use Rattle.hyd_theorems_on_spread.proofs.examples.Goals as goal

pub returns-clause-above : goal.returns-clause-above
returns-clause-above c = refl

pub returns-clause-below : goal.returns-clause-below
returns-clause-below c = refl
