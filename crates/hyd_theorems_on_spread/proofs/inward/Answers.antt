use Rattle.hyd_theorems_on_spread.proofs.CertificatesInward.{goes-inward}
use Rattle.hyd_theorems_on_spread.proofs.inward.Goals as goal

pub returns : goal.returns
returns c = λ side problem outer inner u sound beyond certificate.
    goes-inward side problem outer inner u sound.links beyond certificate
