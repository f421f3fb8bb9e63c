use Rattle.std.proofs.Common.{◌≤◌, ◌^◌, unsigned_abs, to_z, of_z, arith}
use Rattle.std.specs.Int.{w128}
use Rattle.std.proofs.lemmas.Int.{ints}
use Rattle.hyd_spec.specs.DemandsHeadsAndPumpLifts.{multiplier_at}
use Rattle.hyd_demands_and_reservoir_heads.proofs.DemandsAndReservoirHeads.{head_small}
use Rattle.hyd_demands_and_reservoir_heads.proofs.reservoirs.head_by_pattern.Goals as goal

pub returns-clause-head : goal.returns-clause-head
returns-clause-head c =
    let small : unsigned_abs c.times.result ≤ 10 ^ 17 =
    head_small c.times.result (to_z w128 (of_z w128 c.from.result)) (to_z w128 (of_z w128 c.from-2.result))
    c.args.head (multiplier_at c.args.project.now c.args.pattern c.args.time)
    c.times.ensures.small (omega (arith, ints)) (omega (arith, ints)) c.requires.small in
    record { at_least = omega (arith, ints); at_most = omega (arith, ints) }
