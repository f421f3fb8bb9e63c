use Rattle.hyd_power_laws.proofs.SignedFlows.{below, above, ordered}
use Rattle.hyd_power_laws.proofs.laws.flows_enclose.Goals as goal

pub returns-clause-below : goal.returns-clause-below
returns-clause-below c = below

pub returns-clause-above : goal.returns-clause-above
returns-clause-above c = above

pub returns-clause-ordered : goal.returns-clause-ordered
returns-clause-ordered c = ordered
