use Rattle.hyd_theorems_on_nesting.proofs.RecordOrStop.{goes_on}
use Rattle.hyd_theorems_on_nesting.proofs.onward.Goals as goal

pub returns : goal.returns
returns c = goes_on
