use Rattle.hyd_theorems_on_witnesses.proofs.AtScaleOne.{low-at-one, high-at-one}
use Rattle.hyd_theorems_on_witnesses.proofs.flows_at_scale_one.Goals as goal

pub returns-clause-low_same : goal.returns-clause-low_same
returns-clause-low_same c = low-at-one

pub returns-clause-high_same : goal.returns-clause-high_same
returns-clause-high_same c = high-at-one
