use Rattle.hyd_theorems_on_spread.proofs.HeadsWithin.{heads-below, heads-above}
use Rattle.hyd_theorems_on_spread.proofs.heads.Goals as goal

pub returns-clause-above : goal.returns-clause-above
returns-clause-above c = λ project spread S time intervals levels tanks links nodes assignment u is certificate.
    heads-below project spread S time intervals levels tanks links nodes assignment is certificate.grid u
    certificate.is_outermost certificate.is_certificate

pub returns-clause-below : goal.returns-clause-below
returns-clause-below c = λ project spread S time intervals levels tanks links nodes assignment u is certificate.
    heads-above project spread S time intervals levels tanks links nodes assignment is certificate.grid u
    certificate.is_outermost certificate.is_certificate
