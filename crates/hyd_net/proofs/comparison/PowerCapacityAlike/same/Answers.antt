use Rattle.hyd_net.proofs.EqualValues.{compared_power-decides}
use Rattle.hyd_net.proofs.comparison.PowerCapacityAlike.same.Goals as goal

pub returns : goal.returns
returns c = compared_power-decides c.args.self.now c.args.other.now _ c.same_ends_and_minor.ensures
