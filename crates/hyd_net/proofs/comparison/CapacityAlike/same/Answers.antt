use Rattle.std.proofs.Common.{true}
use Rattle.hyd_net.proofs.EqualValues.{compared_capacity-decides, compared_capacity-apart}
use Rattle.hyd_net.proofs.comparison.CapacityAlike.same.Goals as goal

pub returns-then-same_end : goal.returns-then-same_end
returns-then-same_end c =
    compared_capacity-decides c.args.self.now c.args.other.now true _ c.if-same_end.ensures
    c.same_end-then-same_end.ensures

pub returns-else-same_end : goal.returns-else-same_end
returns-else-same_end c =
    rw c.if-same_end.false (compared_capacity-apart c.args.self.now c.args.other.now c.if-same_end.ensures)
