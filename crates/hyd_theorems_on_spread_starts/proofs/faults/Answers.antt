use Rattle.hyd_theorems_on_spread_starts.proofs.StartsWithRows.{decided-or-fault, not-decided, one-line}
use Rattle.hyd_theorems_on_spread_starts.proofs.faults.Goals as goal

pub returns-clause-decided : goal.returns-clause-decided
returns-clause-decided c = decided-or-fault

pub returns-clause-open : goal.returns-clause-open
returns-clause-open c = not-decided

pub returns-clause-alone : goal.returns-clause-alone
returns-clause-alone c = one-line
