use Rattle.hyd_cert.proofs.WholeTextLemmas.{one_fault, fault_no_certificate, fault_or_header}
use Rattle.hyd_cert.proofs.theorems_on_texts_and_faults.first_fault_is_one.Goals as goal

pub returns-clause-one : goal.returns-clause-one
returns-clause-one c = one_fault

pub returns-clause-no_certificate : goal.returns-clause-no_certificate
returns-clause-no_certificate c = fault_no_certificate

pub returns-clause-own_header : goal.returns-clause-own_header
returns-clause-own_header c = fault_or_header
