use Rattle.hyd_power_capacities.proofs.OnePowerCapacity.{one_capacity}
use Rattle.hyd_power_capacities.proofs.laws.one_capacity.Goals as goal

pub returns : goal.returns
returns c = one_capacity
