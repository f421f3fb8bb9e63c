use Rattle.hyd_theorems_on_nesting.proofs.TightVectorsDecide.{tidy_at_start, tidy_next}
use Rattle.hyd_theorems_on_nesting.proofs.tidied.Goals as goal

pub returns-clause-start : goal.returns-clause-start
returns-clause-start c = tidy_at_start

pub returns-clause-next : goal.returns-clause-next
returns-clause-next c = tidy_next
