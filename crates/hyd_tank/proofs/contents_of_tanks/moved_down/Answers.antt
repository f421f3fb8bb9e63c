use Rattle.std.proofs.Common.{arith}
use Rattle.std.proofs.lemmas.Int.{ints, clamps}
use Rattle.hyd_tank.proofs.contents_of_tanks.moved_down.Goals as goal

pub overflow_cast-result : goal.overflow_cast-result
overflow_cast-result c = omega (arith, ints, clamps, c.max.ensures.value)

pub returns : goal.returns
returns c = omega (arith, ints, clamps, c.max.ensures.value)
