use Rattle.hyd_theorems_on_histories.proofs.TruthsAndRuleValues.{changes_are}
use Rattle.hyd_theorems_on_histories.proofs.changes.Goals as goal

pub returns : goal.returns
returns c = changes_are
