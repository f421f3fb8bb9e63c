use Rattle.hyd_theorems_on_histories.proofs.AgreementAtStart.{agrees_at_start}
use Rattle.hyd_theorems_on_histories.proofs.AgreementAfterPeriod.{is_under, agrees_next}
use Rattle.hyd_theorems_on_histories.proofs.steps.Goals as goal

pub returns-clause-start : goal.returns-clause-start
returns-clause-start c = agrees_at_start

pub returns-clause-under : goal.returns-clause-under
returns-clause-under c = is_under

pub returns-clause-agrees : goal.returns-clause-agrees
returns-clause-agrees c = agrees_next
