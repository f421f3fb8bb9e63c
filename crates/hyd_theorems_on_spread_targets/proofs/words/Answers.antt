use Rattle.hyd_theorems_on_spread_targets.proofs.OneWordOverPairs.{one-word}
use Rattle.hyd_theorems_on_spread_targets.proofs.words.Goals as goal

pub returns : goal.returns
returns c = λ project sound spread is pipe pair are steady j inside low high ordered r s a b not-a not-b x y.
    one-word project sound spread is pipe pair are steady j low high inside ordered r s a b not-a not-b x y
