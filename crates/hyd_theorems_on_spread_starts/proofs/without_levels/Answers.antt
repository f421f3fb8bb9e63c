use Rattle.hyd_theorems_on_spread_starts.proofs.StartsWithRows.{decided-alone}
use Rattle.hyd_theorems_on_spread_starts.proofs.without_levels.Goals as goal

pub returns : goal.returns
returns c = decided-alone
