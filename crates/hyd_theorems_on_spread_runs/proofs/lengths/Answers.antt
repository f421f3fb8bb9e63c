use Rattle.hyd_theorems_on_spread_runs.proofs.BoundedLengths.{length_and_links}
use Rattle.hyd_theorems_on_spread_runs.proofs.lengths.Goals as goal

pub returns : goal.returns
returns c = length_and_links
