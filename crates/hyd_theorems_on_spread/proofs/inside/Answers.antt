use Rattle.hyd_theorems_on_spread.proofs.CertificatesInward.{goes-inward}
use Rattle.hyd_theorems_on_spread.proofs.LinksWithin.{outermost-sound}
use Rattle.hyd_theorems_on_spread.proofs.OutermostGrids.{beyond-spread, beyond-levels}
use Rattle.hyd_spec_certificates.specs.declared.Problem.TheVariants.{Main}
use Rattle.hyd_theorems_on_spread.proofs.GreaterSpreads.{history-wider}
use Rattle.hyd_theorems_on_spread.proofs.inside.Goals as goal

pub returns-clause-problems : goal.returns-clause-problems
returns-clause-problems c = λ project inner outer inside time levels tanks links problem side u made certificate grid
    is. goes-inward side problem certificate.grid grid u
    (outermost-sound project inner side time levels tanks links grid made is)
    (beyond-spread project inner outer time levels tanks links problem side certificate.grid grid inside
    certificate.is_outermost is) certificate.is_certificate

pub returns-clause-levels : goal.returns-clause-levels
returns-clause-levels c = λ project inner outer inside time wide narrow less tanks links side u made certificate grid
    is. goes-inward side Main certificate.grid grid u
    (outermost-sound project inner side time narrow tanks links grid made is)
    (beyond-levels project inner outer time wide narrow tanks links side certificate.grid grid inside less
    certificate.is_outermost is) certificate.is_certificate

pub returns-clause-histories : goal.returns-clause-histories
returns-clause-histories c = λ project sound inner outer inside S periods history.
    history-wider project sound inner outer inside S periods history
