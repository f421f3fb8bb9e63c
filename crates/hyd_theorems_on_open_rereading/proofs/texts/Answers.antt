use Rattle.hyd_theorems_on_open_rereading.proofs.OpenRunsWithoutSpare.{open_texts, open_certificates}
use Rattle.hyd_theorems_on_open_rereading.proofs.texts.Goals as goal

pub returns-clause-report : goal.returns-clause-report
returns-clause-report c = open_texts

pub returns-clause-certificate : goal.returns-clause-certificate
returns-clause-certificate c = open_certificates
