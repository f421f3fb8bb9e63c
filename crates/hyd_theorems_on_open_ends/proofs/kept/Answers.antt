use Rattle.hyd_theorems_on_open_ends.proofs.AgreementOverEnds.{kept_from_start, kept_on}
use Rattle.hyd_theorems_on_open_ends.proofs.kept.Goals as goal

pub returns-clause-start : goal.returns-clause-start
returns-clause-start c = kept_from_start

pub returns-clause-next : goal.returns-clause-next
returns-clause-next c = kept_on
