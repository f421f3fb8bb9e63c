use Rattle.hyd_spread_vectors.proofs.CertificatesOver.{are-certificates}
use Rattle.hyd_spread_vectors.proofs.theorems_on_spread_vectors.certificates_over.Goals as goal

pub returns : goal.returns
returns c = are-certificates
