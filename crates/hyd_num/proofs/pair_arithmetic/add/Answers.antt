use Rattle.hyd_num.proofs.EndsInOrder.{sums_ordered}
use Rattle.hyd_num.proofs.pair_arithmetic.add.Goals as goal

pub between-requires : goal.between-requires
between-requires c = sums_ordered c.args.x c.args.y c.sum_down.result c.sum_up.result c.sum_down.ensures.down
    c.sum_up.ensures.up
