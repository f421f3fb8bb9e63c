use Rattle.std.proofs.Common.{arith}
use Rattle.hyd_power_laws.proofs.OrderOfCutNumbers.{by_mantissas, by_exponents}
use Rattle.hyd_power_laws.proofs.comparisons.is_at_most.Goals as goal

pub returns-then-left-right : goal.returns-then-left-right
returns-then-left-right c = by_mantissas c.args.a c.args.b c.args.i c.args.j
    (omega (arith, c.if-left-right.true, c.from.ensures, c.from-2.ensures))

pub returns : goal.returns
returns c = rw (c.from.ensures, c.from-2.ensures) (by_exponents c.args.a c.args.b c.args.i c.args.j c.requires.a_normal
    c.requires.b_normal (λ e. c.if-left-right.false (omega (arith, e, c.from.ensures, c.from-2.ensures))))
