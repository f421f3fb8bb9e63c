use Rattle.hyd_theorems_on_spread_promises.proofs.StopsAlone.{stops_alone, ends_alone}
use Rattle.hyd_theorems_on_spread_promises.proofs.stops.Goals as goal

pub returns-clause-cause : goal.returns-clause-cause
returns-clause-cause c = stops_alone

pub returns-clause-ends : goal.returns-clause-ends
returns-clause-ends c = ends_alone
