use Rattle.hyd_theorems_on_answers.proofs.VersionsWritten.{plain_lacks, naming_lacks, open_has}
use Rattle.hyd_theorems_on_answers.proofs.two_calls.versions_written.Goals as goal

pub returns-clause-plain : goal.returns-clause-plain
returns-clause-plain c = plain_lacks

pub returns-clause-naming : goal.returns-clause-naming
returns-clause-naming c = naming_lacks

pub returns-clause-openly : goal.returns-clause-openly
returns-clause-openly c = open_has
