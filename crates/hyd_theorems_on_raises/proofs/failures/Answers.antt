use Rattle.hyd_theorems_on_definitions.proofs.OneFirstFailure.{fails-no-certificate, one-failure}
use Rattle.hyd_theorems_on_raises.proofs.CertificateOrFailure.{certificate-or-fails}
use Rattle.hyd_theorems_on_raises.proofs.failures.Goals as goal

pub returns-clause-found : goal.returns-clause-found
returns-clause-found c = certificate-or-fails

pub returns-clause-none : goal.returns-clause-none
returns-clause-none c = fails-no-certificate

pub returns-clause-one : goal.returns-clause-one
returns-clause-one c = one-failure
