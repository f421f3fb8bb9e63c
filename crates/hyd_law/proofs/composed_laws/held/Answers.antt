use Rattle.std.proofs.Common.{arith}
use Rattle.std.proofs.lemmas.Int.{ints, clamps}
use Rattle.hyd_law.proofs.composed_laws.held.Goals as goal

pub returns-clause-value : goal.returns-clause-value
returns-clause-value c = omega (arith, ints, clamps, c.max.ensures.value, c.min.ensures.value)

pub returns-clause-small : goal.returns-clause-small
returns-clause-small c = omega (arith, ints, clamps, c.max.ensures.value, c.min.ensures.value)
