use Rattle.hyd_theorems_on_spread_checks.proofs.NeverRefusedOver.{tells_certificate, accepted_certificate}
use Rattle.hyd_theorems_on_spread_checks.proofs.certificates_of_runs.Goals as goal

pub returns-clause-told : goal.returns-clause-told
returns-clause-told c = tells_certificate

pub returns-clause-accepted : goal.returns-clause-accepted
returns-clause-accepted c = accepted_certificate
