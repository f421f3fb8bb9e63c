use Rattle.hyd_theorems_on_histories.proofs.Clauses.{clause_tells}
use Rattle.hyd_theorems_on_histories.proofs.RuleReadingsBetweenEnds.{readings_between}
use Rattle.hyd_theorems_on_histories.proofs.readings.Goals as goal

pub returns-clause-lie : goal.returns-clause-lie
returns-clause-lie c = readings_between

pub returns-clause-clauses : goal.returns-clause-clauses
returns-clause-clauses c = clause_tells
