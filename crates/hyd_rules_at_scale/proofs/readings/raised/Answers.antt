use Rattle.std.proofs.Common.{arith}
use Rattle.std.proofs.lemmas.Int.{ints}
use Rattle.hyd_rules_at_scale.proofs.ReadingsOfInstants.{raised_is}
use Rattle.hyd_rules_at_scale.proofs.readings.raised.Goals as goal

pub returns-clause-value : goal.returns-clause-value
returns-clause-value c = λ x exactly.
    raised_is c.args.value _ c.args.by x (omega (arith, ints)) exactly
