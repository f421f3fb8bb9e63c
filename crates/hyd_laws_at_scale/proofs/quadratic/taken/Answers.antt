use Rattle.std.proofs.Common.{arith}
use Rattle.std.proofs.lemmas.Int.{ints}
use Rattle.hyd_num.proofs.CapacityRoots.{high_exponent}
use Rattle.hyd_laws_at_scale.proofs.ScaledRoots.{taken_is}
use Rattle.hyd_laws_at_scale.proofs.quadratic.taken.Goals as goal

pub overflow_add-c : goal.overflow_add-c
overflow_add-c c =
    omega (arith, ints, high_exponent c.args.c c.requires, c.args.scale.small)

pub returns : goal.returns
returns c = taken_is c.args.c c.scaled.result c.args.scale.power c.scaled.ensures.mantissa
    (omega (arith, ints, c.scaled.ensures.exponent, high_exponent c.args.c c.requires, c.args.scale.small))
