use Rattle.hyd_cert.proofs.CertificatesLineByLine.{fault_behind}
use Rattle.hyd_cert.proofs.theorems_on_texts_and_faults.fault_behind_records.Goals as goal

pub returns : goal.returns
returns c = fault_behind
