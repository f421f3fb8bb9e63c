use Rattle.hyd_theorems_on_open_ends.proofs.KnownToTheSecond.{ends_as_known, opens_as_known}
use Rattle.hyd_theorems_on_open_ends.proofs.known_ends.Goals as goal

pub returns-clause-ends : goal.returns-clause-ends
returns-clause-ends c = ends_as_known

pub returns-clause-opens : goal.returns-clause-opens
returns-clause-opens c = opens_as_known
