use Rattle.hyd_theorems_on_open_stops.proofs.OnwardOrStopped.{goes_on_or_stops, no_stop}
use Rattle.hyd_theorems_on_open_stops.proofs.onward.Goals as goal

pub returns-clause-goes_on : goal.returns-clause-goes_on
returns-clause-goes_on c = goes_on_or_stops

pub returns-clause-not_both : goal.returns-clause-not_both
returns-clause-not_both c = no_stop
