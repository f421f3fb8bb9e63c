use Rattle.std.proofs.Common.{◌*◌, ◌^◌}
use Rattle.hyd_power_laws.proofs.TwoParts.{two_parts}
use Rattle.hyd_power_laws.proofs.left_heads.times_square.Goals as goal

pub returns-clause-value : goal.returns-clause-value
returns-clause-value c = rw (c.from.ensures, c.from-2.ensures, c.from-3.ensures, c.from-4.ensures)
    (two_parts c.args.mant (c.args.flow * c.args.flow) (2 ^ 64))
