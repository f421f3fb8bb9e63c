use Rattle.hyd_theorems_on_open_stops.proofs.ArrivalsDecided.{arrival_is, one_reached}
use Rattle.hyd_theorems_on_open_stops.proofs.arrivals.Goals as goal

pub returns-clause-some : goal.returns-clause-some
returns-clause-some c = arrival_is

pub returns-clause-one : goal.returns-clause-one
returns-clause-one c = one_reached
