use Rattle.std.proofs.Common.{◌*◌, ◌+◌}
use Rattle.hyd_num.specs.BinaryNumbers.{numerator, denominator}
use Rattle.hyd_num.proofs.RoundingLemmas.{IsDown-from_cut}
use Rattle.hyd_num.proofs.pair_arithmetic.sum_down.Goals as goal

pub returns-clause-down : goal.returns-clause-down
returns-clause-down c = IsDown-from_cut (numerator c.args.a * denominator c.args.b + numerator c.args.b
    * denominator c.args.a) (denominator c.args.a * denominator c.args.b) c.sum.result.down c.sum.result.exact
    c.sum.ensures.cut
