use Rattle.std.proofs.Common.{arith}
use Rattle.std.proofs.lemmas.Int.{ints}
use Rattle.hyd_num.specs.FileQuantity.{billionths}
use Rattle.hyd_power_capacities.proofs.MinorLosses.{with_minor, some_billionths}
use Rattle.hyd_power_capacities.proofs.capacities.minor.Goals as goal

pub returns-then-k-gt0-clause-value : goal.returns-then-k-gt0-clause-value
returns-then-k-gt0-clause-value c = with_minor (billionths c.args.k) c.args.diameter c.args.k c.args.us c.minor_ticks.result
    (some_billionths c.args.k (omega (arith, ints))) c.minor_ticks.ensures.value
