use Rattle.hyd_power_capacities.proofs.PipeLaws.{below, above, ordered}
use Rattle.hyd_power_capacities.proofs.laws.flows_of_pipes.Goals as goal

pub returns-clause-below : goal.returns-clause-below
returns-clause-below c = λ capacity S d y made long wide le. below capacity made long wide S d y le

pub returns-clause-above : goal.returns-clause-above
returns-clause-above c = λ capacity S d y made long wide le. above capacity made long wide S d y le

pub returns-clause-ordered : goal.returns-clause-ordered
returns-clause-ordered c = λ capacity d made long wide. ordered capacity made long wide d
