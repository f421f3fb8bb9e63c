use Rattle.hyd_theorems_on_spread_targets.proofs.OwnNetwork.{own-drawing, own-with-shut}
use Rattle.hyd_theorems_on_spread_targets.proofs.WithoutSpread.{own-enough, own-too-much}
use Rattle.hyd_theorems_on_spread_targets.proofs.own_network.Goals as goal

pub returns-clause-drawing : goal.returns-clause-drawing
returns-clause-drawing c = λ project sound spread is S place q assignment first.
    own-drawing project sound spread is S place q assignment first

pub returns-clause-with_shut : goal.returns-clause-with_shut
returns-clause-with_shut c = λ project sound spread is S pipe assignment first.
    own-with-shut project sound spread is S pipe assignment first

pub returns-clause-enough : goal.returns-clause-enough
returns-clause-enough c = own-enough

pub returns-clause-too_much : goal.returns-clause-too_much
returns-clause-too_much c = own-too-much
