use Rattle.hyd_theorems_on_tight_runs.proofs.Texts.{certificate_begins, report_begins}
use Rattle.hyd_theorems_on_tight_runs.proofs.so_far.Goals as goal

pub returns-clause-certificate : goal.returns-clause-certificate
returns-clause-certificate c = certificate_begins

pub returns-clause-report : goal.returns-clause-report
returns-clause-report c = report_begins
