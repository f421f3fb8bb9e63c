use Rattle.std.proofs.Common.{◌+◌, ◌^◌, ◌<◌, ◌≤◌, arith}
use Rattle.hyd_num.proofs.RoundingLemmas.{power_below}
use Rattle.hyd_num.proofs.LongDivision.{upto}
use Rattle.hyd_num.proofs.fractions.lacking_digits.Goals as goal

pub overflow_sub-result : goal.overflow_sub-result
overflow_sub-result c =
    let l : c.ilog2.result < 62 = power_below c.ilog2.result 62 (omega (arith, c.ilog2.ensures.power_le)) in
    omega arith

pub returns-clause-some : goal.returns-clause-some
returns-clause-some c =
    let l : c.ilog2.result < 62 = power_below c.ilog2.result 62 (omega (arith, c.ilog2.ensures.power_le)) in
    omega arith

pub returns-clause-below : goal.returns-clause-below
returns-clause-below c =
    let l : c.ilog2.result < 62 = power_below c.ilog2.result 62 (omega (arith, c.ilog2.ensures.power_le)) in
    upto c.args.mant c.ilog2.result l c.ilog2.ensures.next_power_gt
