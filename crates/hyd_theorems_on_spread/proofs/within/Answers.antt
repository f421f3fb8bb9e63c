use Rattle.hyd_theorems_on_spread.proofs.CertificatesInward.{goes-inward}
use Rattle.hyd_theorems_on_spread.proofs.LinksWithin.{network-sound}
use Rattle.hyd_theorems_on_spread.proofs.OutermostGrids.{beyond-network}
use Rattle.hyd_theorems_on_spread.proofs.within.Goals as goal

pub returns : goal.returns
returns c = λ project spread time levels tanks links problem side u made certificate nodes within grid is.
    goes-inward side problem certificate.grid grid u
    (network-sound project spread nodes time levels tanks links grid made within is)
    (beyond-network project spread time levels tanks links problem side nodes certificate.grid grid
    certificate.is_outermost within is) certificate.is_certificate
