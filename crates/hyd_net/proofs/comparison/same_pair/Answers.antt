use Rattle.std.proofs.Common.{true}
use Rattle.hyd_net.proofs.EqualValues.{Pair-decides, Pair-apart}
use Rattle.hyd_net.proofs.comparison.same_pair.Goals as goal

pub returns-then-same_end : goal.returns-then-same_end
returns-then-same_end c =
    Pair-decides c.args.a c.args.b true _ c.if-same_end.ensures c.same_end-then-same_end.ensures

pub returns-else-same_end : goal.returns-else-same_end
returns-else-same_end c = rw c.if-same_end.false (Pair-apart c.args.a c.args.b c.if-same_end.ensures)
