use Rattle.hyd_theorems_on_definitions.proofs.CertificateLines.{counts-same, contents-same}
use Rattle.hyd_theorems_on_definitions.proofs.texts.one_reading.Goals as goal

pub returns-clause-counts : goal.returns-clause-counts
returns-clause-counts c = counts-same

pub returns-clause-contents : goal.returns-clause-contents
returns-clause-contents c = contents-same
