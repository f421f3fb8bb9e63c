use Rattle.hyd_cert.proofs.WholeTextLemmas.{no_certificate_at_fault, no_certificate_of_others}
use Rattle.hyd_cert.proofs.theorems_on_texts_and_faults.refused_is_no_certificate.Goals as goal

pub returns-clause-grammar : goal.returns-clause-grammar
returns-clause-grammar c = no_certificate_at_fault

pub returns-clause-count : goal.returns-clause-count
returns-clause-count c = no_certificate_of_others
