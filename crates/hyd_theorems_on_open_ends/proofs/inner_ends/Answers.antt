use Rattle.hyd_theorems_on_open_ends.proofs.NestedWays.{narrower, no_shorter, no_longer}
use Rattle.hyd_theorems_on_open_ends.proofs.StopsAtTightVectors.{inner_way, no_way_where_open}
use Rattle.hyd_theorems_on_open_ends.proofs.inner_ends.Goals as goal

pub returns-clause-ways : goal.returns-clause-ways
returns-clause-ways c = inner_way

pub returns-clause-narrower : goal.returns-clause-narrower
returns-clause-narrower c = narrower

pub returns-clause-no_shorter : goal.returns-clause-no_shorter
returns-clause-no_shorter c = no_shorter

pub returns-clause-no_longer : goal.returns-clause-no_longer
returns-clause-no_longer c = no_longer

pub returns-clause-stops : goal.returns-clause-stops
returns-clause-stops c = no_way_where_open
