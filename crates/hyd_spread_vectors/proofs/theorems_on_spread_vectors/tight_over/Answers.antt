use Rattle.hyd_spread_vectors.proofs.CertificatesOver.{are-tight}
use Rattle.hyd_spread_vectors.proofs.theorems_on_spread_vectors.tight_over.Goals as goal

pub returns : goal.returns
returns c = are-tight
