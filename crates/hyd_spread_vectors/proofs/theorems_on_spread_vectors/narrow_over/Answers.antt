use Rattle.hyd_spread_vectors.proofs.CloseVectors.{narrow-over}
use Rattle.hyd_spread_vectors.proofs.theorems_on_spread_vectors.narrow_over.Goals as goal

pub returns : goal.returns
returns c = narrow-over
