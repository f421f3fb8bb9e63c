use Rattle.std.proofs.Common.{arith}
use Rattle.std.proofs.lemmas.Int.{ints}
use Rattle.hyd_laws_at_scale.proofs.Scales.{power_small}
use Rattle.hyd_stocks_at_scale.proofs.contents.missed.Goals as goal

pub returns-clause-small : goal.returns-clause-small
returns-clause-small c =
    let few = power_small c.args.scale.power c.args.scale.small in
    record {
      at_least = omega (arith, ints, c.in_parts.ensures.value, few);
      at_most = omega (arith, ints, c.in_parts.ensures.value, few);
    }
