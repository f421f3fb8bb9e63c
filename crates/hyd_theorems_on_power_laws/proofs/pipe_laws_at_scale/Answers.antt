use Rattle.hyd_theorems_on_power_laws.proofs.PipeLawsAtScale.{IsLaw-power_at}
use Rattle.hyd_theorems_on_power_laws.proofs.AtScaleOne.{low-at-one, high-at-one, covers-at-one}
use Rattle.hyd_theorems_on_power_laws.proofs.pipe_laws_at_scale.Goals as goal

pub returns-clause-law : goal.returns-clause-law
returns-clause-law c = λ S capacity some made. IsLaw-power_at S some capacity made

pub returns-clause-low_same : goal.returns-clause-low_same
returns-clause-low_same c = low-at-one

pub returns-clause-high_same : goal.returns-clause-high_same
returns-clause-high_same c = high-at-one

pub returns-clause-in_range : goal.returns-clause-in_range
returns-clause-in_range c = covers-at-one
