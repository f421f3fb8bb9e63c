use Rattle.hyd_cert.proofs.CertificatesLineByLine.{whole_reading}
use Rattle.hyd_cert.proofs.theorems_on_texts_and_faults.reading_is_whole.Goals as goal

pub returns : goal.returns
returns c = whole_reading
