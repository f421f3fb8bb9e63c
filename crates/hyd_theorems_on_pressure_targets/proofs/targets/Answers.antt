use Rattle.hyd_theorems_on_pressure_targets.proofs.TargetHeads.{above-target, below-target}
use Rattle.hyd_theorems_on_pressure_targets.proofs.targets.Goals as goal

pub returns-clause-above : goal.returns-clause-above
returns-clause-above c = above-target

pub returns-clause-below : goal.returns-clause-below
returns-clause-below c = below-target
