use Rattle.std.proofs.Common.{◌*◌, ◌+◌, mul-pos}
use Rattle.hyd_num.specs.BinaryNumbers.{numerator, denominator}
use Rattle.hyd_num.proofs.EndsInOrder.{denominator_positive}
use Rattle.hyd_num.proofs.pair_arithmetic.sum_up.Goals as goal

pub returns-clause-up : goal.returns-clause-up
returns-clause-up c = c.raised.ensures.up (numerator c.args.a * denominator c.args.b + numerator c.args.b
    * denominator c.args.a) (denominator c.args.a * denominator c.args.b)
    (mul-pos (denominator_positive c.args.a) (denominator_positive c.args.b)) c.sum.ensures.cut
