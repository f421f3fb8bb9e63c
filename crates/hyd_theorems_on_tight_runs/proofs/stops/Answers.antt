use Rattle.hyd_theorems_on_tight_runs.proofs.Texts.{never_stops}
use Rattle.hyd_theorems_on_tight_runs.proofs.stops.Goals as goal

pub returns : goal.returns
returns c = λ project sound text report b founds left run. never_stops project text report b founds left run sound
