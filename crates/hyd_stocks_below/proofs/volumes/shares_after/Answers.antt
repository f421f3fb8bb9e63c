use Rattle.std.proofs.Common.{arith}
use Rattle.std.specs.Int.{w128}
use Rattle.std.proofs.lemmas.Int.{ints, to_z-of_z}
use Rattle.hyd_stocks_below.proofs.volumes.shares_after.Goals as goal

pub returns-clause-value : goal.returns-clause-value
returns-clause-value c =
    let kept = to_z-of_z w128 c.args.inflow c.ranges.inflow in
    let gained = rw kept at c.gained-gained.ensures.value in
    omega (arith, ints, gained, c.gained-gained.ensures.small, c.requires.stock.volume)
