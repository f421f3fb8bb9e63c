use Rattle.hyd_open_certificates.proofs.WholeOpenTexts.{refused, refused_counts}
use Rattle.hyd_open_certificates.proofs.theorems_on_open_texts.refused_is_no_open_certificate.Goals as goal

pub returns-clause-grammar : goal.returns-clause-grammar
returns-clause-grammar c = refused

pub returns-clause-count : goal.returns-clause-count
returns-clause-count c = refused_counts
