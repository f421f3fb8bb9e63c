use Rattle.hyd_theorems_on_spread_runs.proofs.CertificatesInside.{inside-another, of-the-network}
use Rattle.hyd_theorems_on_spread_runs.proofs.certificates.Goals as goal

pub returns-clause-inner : goal.returns-clause-inner
returns-clause-inner c = inside-another

pub returns-clause-own : goal.returns-clause-own
returns-clause-own c = of-the-network
