use Rattle.hyd_open_certificates.proofs.WholeOpenTexts.{behind_records}
use Rattle.hyd_open_certificates.proofs.theorems_on_open_texts.faults_behind_records.Goals as goal

pub returns : goal.returns
returns c = behind_records
