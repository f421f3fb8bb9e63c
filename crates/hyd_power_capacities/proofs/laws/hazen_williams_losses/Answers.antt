use Rattle.hyd_power_capacities.proofs.PipeLaws.{falls, rises, consistent, without_head}
use Rattle.hyd_power_capacities.proofs.laws.hazen_williams_losses.Goals as goal

pub returns-clause-falls : goal.returns-clause-falls
returns-clause-falls c = falls

pub returns-clause-rises : goal.returns-clause-rises
returns-clause-rises c = rises

pub returns-clause-consistent : goal.returns-clause-consistent
returns-clause-consistent c = consistent

pub returns-clause-without_head : goal.returns-clause-without_head
returns-clause-without_head c = without_head
