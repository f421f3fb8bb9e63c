use Rattle.hyd_cert.proofs.WholeTextLemmas.{first_fault}
use Rattle.hyd_cert.proofs.theorems_on_texts_and_faults.fault_is_first.Goals as goal

pub returns : goal.returns
returns c = first_fault
