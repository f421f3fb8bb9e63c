use Rattle.hyd_power_laws.proofs.SignedFlows.{low-rises, high-rises, low-odd, high-odd}
use Rattle.hyd_power_laws.proofs.laws.flows_of_capacities.Goals as goal

pub returns-clause-low_rises : goal.returns-clause-low_rises
returns-clause-low_rises c = low-rises

pub returns-clause-high_rises : goal.returns-clause-high_rises
returns-clause-high_rises c = high-rises

pub returns-clause-low_odd : goal.returns-clause-low_odd
returns-clause-low_odd c = low-odd

pub returns-clause-high_odd : goal.returns-clause-high_odd
returns-clause-high_odd c = high-odd
