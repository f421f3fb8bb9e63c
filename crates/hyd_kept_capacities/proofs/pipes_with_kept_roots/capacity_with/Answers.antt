use Rattle.std.proofs.Common.{arith}
use Rattle.std.proofs.lemmas.Int.{ints}
use Rattle.hyd_num.specs.FileQuantity.{billionths}
use Rattle.hyd_capacities.proofs.PipePairs.{pipe_without_minor, no_billionths}
use Rattle.hyd_kept_capacities.proofs.pipes_with_kept_roots.capacity_with.Goals as goal

pub capacity_inside-requires-clause-pair : goal.capacity_inside-requires-clause-pair
capacity_inside-requires-clause-pair c =
    pipe_without_minor (billionths c.args.minor) c.args.length c.args.diameter c.args.roughness c.args.minor c.args.us
    c.friction.result c.unit_over-pair.result (no_billionths c.args.minor (omega (arith, ints)))
    c.friction.ensures.value c.unit_over-pair.ensures
