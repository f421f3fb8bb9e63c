use Rattle.hyd_theorems_on_nesting.proofs.RuleInstants.{walk_begins, walk_on, found}
use Rattle.hyd_theorems_on_nesting.proofs.multiples.Goals as goal

pub returns-clause-start : goal.returns-clause-start
returns-clause-start c = walk_begins

pub returns-clause-on : goal.returns-clause-on
returns-clause-on c = walk_on

pub returns-clause-found : goal.returns-clause-found
returns-clause-found c = found
