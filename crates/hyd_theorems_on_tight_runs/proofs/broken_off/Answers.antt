use Rattle.hyd_theorems_on_tight_runs.proofs.BrokenOff.{broken_certificate, broken_report}
use Rattle.hyd_theorems_on_tight_runs.proofs.broken_off.Goals as goal

pub returns-clause-certificate : goal.returns-clause-certificate
returns-clause-certificate c = broken_certificate

pub returns-clause-report : goal.returns-clause-report
returns-clause-report c = broken_report
