use Rattle.hyd_theorems_on_flows.proofs.IntervalsInOrder.{interval_in_order}
use Rattle.hyd_theorems_on_flows.proofs.intervals_in_order.Goals as goal

pub returns : goal.returns
returns c = interval_in_order
