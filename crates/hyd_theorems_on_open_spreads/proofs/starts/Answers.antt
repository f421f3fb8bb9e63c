use Rattle.hyd_theorems_on_open_spreads.proofs.QuietStartsWithin.{same-outermost}
use Rattle.hyd_theorems_on_open_spreads.proofs.starts.Goals as goal

pub returns : goal.returns
returns c = same-outermost
