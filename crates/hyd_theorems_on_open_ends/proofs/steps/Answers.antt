use Rattle.hyd_theorems_on_open_ends.proofs.AgreementOverEnds.{agrees_from_start, is_under_openly}
use Rattle.hyd_theorems_on_open_ends.proofs.steps.Goals as goal

pub returns-clause-start : goal.returns-clause-start
returns-clause-start c = agrees_from_start

pub returns-clause-under : goal.returns-clause-under
returns-clause-under c = is_under_openly
