use Rattle.std.proofs.Common.{unsigned_abs, to_z, of_z, arith}
use Rattle.std.specs.Int.{w128}
use Rattle.std.proofs.lemmas.Int.{ints}
use Rattle.hyd_period_network.proofs.PumpLifts.{square_times, square_small, product_small}
use Rattle.hyd_period_network.proofs.pumps.squared_times.Goals as goal

pub product-requires-2 : goal.product-requires-2
product-requires-2 c =
    product_small (unsigned_abs (to_z w128 (of_z w128 c.product.result)))
    (unsigned_abs (to_z w128 (of_z w128 c.args.head))) (unsigned_abs c.args.speed)
    (unsigned_abs (to_z w128 (of_z w128 c.from-speed.result)))
    (omega (arith, ints)) (omega (arith, ints, c.product.ensures.small)) (omega (arith, ints)) (omega (arith, ints))

pub returns-clause-value : goal.returns-clause-value
returns-clause-value c =
    let e = square_times c.args.speed (to_z w128 (of_z w128 c.from-speed.result)) c.product-2.result
    (to_z w128 (of_z w128 c.product.result)) (to_z w128 (of_z w128 c.args.head)) c.args.head
    (omega (arith, ints, c.product.ensures.value)) (omega (arith, ints)) (omega (arith, ints))
    c.product-2.ensures.value in
    omega (arith, ints, e)

pub returns-clause-small : goal.returns-clause-small
returns-clause-small c =
    let e = square_small (unsigned_abs c.product-2.result) (unsigned_abs (to_z w128 (of_z w128 c.product.result)))
    (unsigned_abs (to_z w128 (of_z w128 c.args.head))) (unsigned_abs c.args.speed)
    (unsigned_abs (to_z w128 (of_z w128 c.from-speed.result)))
    (omega (arith, ints)) (omega (arith, ints, c.product.ensures.small)) c.product-2.ensures.small
    (omega (arith, ints)) in
    omega (arith, ints, e)
