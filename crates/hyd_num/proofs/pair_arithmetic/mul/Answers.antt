use Rattle.hyd_num.proofs.EndsInOrder.{products_ordered}
use Rattle.hyd_num.proofs.pair_arithmetic.mul.Goals as goal

pub between-requires : goal.between-requires
between-requires c = products_ordered c.args.x c.args.y c.product_down.result c.product_up.result
    c.product_down.ensures.down c.product_up.ensures.up
