use Rattle.std.proofs.Common.{refl}
use Rattle.hyd_theorems_on_definitions.proofs.examples.premise.Goals as goal

pub returns : goal.returns
returns c = λ x y z. refl
