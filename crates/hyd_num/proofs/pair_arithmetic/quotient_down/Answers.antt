use Rattle.std.proofs.Common.{◌*◌}
use Rattle.hyd_num.specs.BinaryNumbers.{numerator, denominator}
use Rattle.hyd_num.proofs.RoundingLemmas.{IsDown-from_cut}
use Rattle.hyd_num.proofs.pair_arithmetic.quotient_down.Goals as goal

pub returns-clause-down : goal.returns-clause-down
returns-clause-down c = IsDown-from_cut (numerator c.args.a * denominator c.args.b)
    (denominator c.args.a * numerator c.args.b) c.quotient.result.down c.quotient.result.exact c.quotient.ensures.cut
