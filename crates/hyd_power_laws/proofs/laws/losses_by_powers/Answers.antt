use Rattle.hyd_power_laws.proofs.LossesAtScale.{loss-falls, loss-rises, loss-consistent, without_head}
use Rattle.hyd_power_laws.proofs.laws.losses_by_powers.Goals as goal

pub returns-clause-falls : goal.returns-clause-falls
returns-clause-falls c = loss-falls

pub returns-clause-rises : goal.returns-clause-rises
returns-clause-rises c = loss-rises

pub returns-clause-consistent : goal.returns-clause-consistent
returns-clause-consistent c = loss-consistent

pub returns-clause-without_head : goal.returns-clause-without_head
returns-clause-without_head c = without_head
