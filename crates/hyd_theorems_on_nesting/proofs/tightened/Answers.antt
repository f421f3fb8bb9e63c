use Rattle.hyd_theorems_on_nesting.proofs.TightVectorsDecide.{tight_is_valid}
use Rattle.hyd_theorems_on_nesting.proofs.tightened.Goals as goal

pub returns : goal.returns
returns c = tight_is_valid
