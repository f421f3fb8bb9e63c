use Rattle.std.proofs.Common.{arith}
use Rattle.std.proofs.lemmas.Int.{ints}
use Rattle.hyd_num.specs.FileQuantity.{billionths}
use Rattle.hyd_capacities.proofs.PipePairs.{pipe_without_minor, fitted_pipe, no_billionths, some_billionths}
use Rattle.hyd_capacities.proofs.pipes_and_valves.pipe_capacity.Goals as goal

pub capacity-requires : goal.capacity-requires
capacity-requires c =
    fitted_pipe (billionths c.args.minor) c.args.length c.args.diameter c.args.roughness c.args.minor c.args.us
    c.friction-friction.result c.minor_loss.result c.add-lost.result c.unit_over.result
    (some_billionths c.args.minor (omega (arith, ints))) c.friction-friction.ensures.value c.minor_loss.ensures.value
    c.add-lost.ensures.sum c.unit_over.ensures

pub capacity-requires-2 : goal.capacity-requires-2
capacity-requires-2 c =
    pipe_without_minor (billionths c.args.minor) c.args.length c.args.diameter c.args.roughness c.args.minor c.args.us
    c.friction-friction.result c.unit_over-2.result
    (no_billionths c.args.minor (omega (arith, ints))) c.friction-friction.ensures.value c.unit_over-2.ensures
