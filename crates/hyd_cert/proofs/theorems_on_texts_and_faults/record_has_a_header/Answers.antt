use Rattle.hyd_cert.proofs.HeadLemmas.{header_is}
use Rattle.hyd_cert.proofs.theorems_on_texts_and_faults.record_has_a_header.Goals as goal

pub returns : goal.returns
returns c = header_is
