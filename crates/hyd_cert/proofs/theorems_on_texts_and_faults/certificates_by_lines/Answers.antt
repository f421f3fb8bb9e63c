use Rattle.hyd_cert.proofs.CertificatesLineByLine.{certificate_goes, goes_certificate}
use Rattle.hyd_cert.proofs.theorems_on_texts_and_faults.certificates_by_lines.Goals as goal

pub returns-clause-certificate_goes : goal.returns-clause-certificate_goes
returns-clause-certificate_goes c = certificate_goes

pub returns-clause-goes_certificate : goal.returns-clause-goes_certificate
returns-clause-goes_certificate c = goes_certificate
