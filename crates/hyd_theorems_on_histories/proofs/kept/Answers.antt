use Rattle.hyd_theorems_on_histories.proofs.AgreementAfterPeriod.{kept_at_start, kept_next}
use Rattle.hyd_theorems_on_histories.proofs.kept.Goals as goal

pub returns-clause-start : goal.returns-clause-start
returns-clause-start c = kept_at_start

pub returns-clause-next : goal.returns-clause-next
returns-clause-next c = kept_next
