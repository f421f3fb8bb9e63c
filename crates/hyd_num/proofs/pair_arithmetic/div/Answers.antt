use Rattle.hyd_num.proofs.EndsInOrder.{quotients_ordered}
use Rattle.hyd_num.proofs.pair_arithmetic.div.Goals as goal

pub between-requires : goal.between-requires
between-requires c = quotients_ordered c.args.x c.args.y c.quotient_down.result c.quotient_up.result
    c.quotient_down.ensures.down c.quotient_up.ensures.up
