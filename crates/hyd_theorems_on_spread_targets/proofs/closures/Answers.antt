use Rattle.hyd_theorems_on_spread_targets.proofs.WordsHoldWithin.{word-holds}
use Rattle.hyd_theorems_on_spread_targets.proofs.closures.Goals as goal

pub returns : goal.returns
returns c = word-holds
