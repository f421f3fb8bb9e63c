use Rattle.hyd_theorems_on_definitions.proofs.WatchedEnds.{ends_at_least}
use Rattle.hyd_theorems_on_definitions.proofs.decisions.ends.Goals as goal

pub returns : goal.returns
returns c = ends_at_least
