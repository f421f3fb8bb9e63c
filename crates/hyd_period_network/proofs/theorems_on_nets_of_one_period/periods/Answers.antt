use Rattle.hyd_period_network.proofs.TwoNetsOfOnePeriod.{answer_alike}
use Rattle.hyd_period_network.proofs.theorems_on_nets_of_one_period.periods.Goals as goal

pub returns : goal.returns
returns c = answer_alike
