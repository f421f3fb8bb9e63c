use Rattle.hyd_theorems_on_tight_runs.proofs.Texts.{one_certificate, one_report}
use Rattle.hyd_theorems_on_tight_runs.proofs.one_text.Goals as goal

pub returns-clause-certificate : goal.returns-clause-certificate
returns-clause-certificate c = one_certificate

pub returns-clause-report : goal.returns-clause-report
returns-clause-report c = one_report
