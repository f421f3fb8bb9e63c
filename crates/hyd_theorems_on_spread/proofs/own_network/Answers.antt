use Rattle.hyd_spec_spread.specs.NetworksWithin.{own_data}
use Rattle.hyd_theorems_on_spread.proofs.CertificatesInward.{goes-inward}
use Rattle.hyd_theorems_on_spread.proofs.LinksWithin.{network-sound}
use Rattle.hyd_theorems_on_spread.proofs.OutermostGrids.{beyond-network}
use Rattle.hyd_theorems_on_spread.proofs.OwnNetwork.{own-within}
use Rattle.hyd_theorems_on_spread.proofs.GreaterSpreads.{own-history}
use Rattle.hyd_theorems_on_spread.proofs.own_network.Goals as goal

pub returns-clause-within : goal.returns-clause-within
returns-clause-within c = own-within

pub returns-clause-certificate : goal.returns-clause-certificate
returns-clause-certificate c = λ project sound spread is time levels tanks links problem side u made certificate grid
    is_grid. goes-inward side problem certificate.grid grid u
    (network-sound project spread (own_data project) time levels tanks links grid made
    (own-within project sound spread is time) is_grid)
    (beyond-network project spread time levels tanks links problem side (own_data project) certificate.grid grid
    certificate.is_outermost (own-within project sound spread is time) is_grid) certificate.is_certificate

pub returns-clause-histories : goal.returns-clause-histories
returns-clause-histories c = λ project sound spread is S periods history.
    own-history project sound spread is S periods history
