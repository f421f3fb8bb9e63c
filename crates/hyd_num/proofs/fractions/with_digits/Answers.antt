use Rattle.std.proofs.Common.{◌^◌}
use Rattle.hyd_num.proofs.LongDivision.{more_digits}
use Rattle.hyd_num.proofs.fractions.with_digits.Goals as goal

pub returns-clause-split : goal.returns-clause-split
returns-clause-split c = more_digits c.args.mant c.args.rest c.args.divisor c.power_of_two-unit.result
    c.quotient_and_rest-behind.result.0 c.quotient_and_rest-behind.result.1 (2 ^ c.args.more)
    c.power_of_two-unit.ensures c.quotient_and_rest-behind.ensures.quotient c.quotient_and_rest-behind.ensures.rest
