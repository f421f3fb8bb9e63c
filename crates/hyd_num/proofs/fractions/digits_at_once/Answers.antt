use Rattle.std.proofs.Common.{◌+◌, ◌≤◌, arith}
use Rattle.hyd_num.proofs.LongDivision.{room, fewer}
use Rattle.hyd_num.proofs.fractions.digits_at_once.Goals as goal

pub returns-clause-below : goal.returns-clause-below
returns-clause-below c =
    let l : c.min.result ≤ c.lacking_digits.result = omega (arith, c.min.ensures) in
    fewer (c.args.mant + 1) c.lacking_digits.result c.min.result _ c.lacking_digits.ensures.below l

pub returns-clause-fits : goal.returns-clause-fits
returns-clause-fits c = room c.args.divisor c.ilog2-room.result 127 c.min.result c.ilog2-room.ensures.next_power_gt
    (omega (arith, c.min.ensures, c.ilog2-room.ensures.bound))
