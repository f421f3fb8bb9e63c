use Rattle.hyd_theorems_on_spread_starts.proofs.LastRows.{last-one, row-at, row-there, no-row-there}
use Rattle.hyd_theorems_on_spread_starts.proofs.rows.Goals as goal

pub returns-clause-last : goal.returns-clause-last
returns-clause-last c = last-one

pub returns-clause-there : goal.returns-clause-there
returns-clause-there c = row-at

pub returns-clause-some : goal.returns-clause-some
returns-clause-some c = row-there

pub returns-clause-none : goal.returns-clause-none
returns-clause-none c = no-row-there
