use Rattle.hyd_theorems_on_witnesses.proofs.OneUnmetClause.{one-unmet, met-is-not-unmet}
use Rattle.hyd_theorems_on_witnesses.proofs.first_clauses.Goals as goal

pub returns-clause-one : goal.returns-clause-one
returns-clause-one c = one-unmet

pub returns-clause-none : goal.returns-clause-none
returns-clause-none c = met-is-not-unmet
