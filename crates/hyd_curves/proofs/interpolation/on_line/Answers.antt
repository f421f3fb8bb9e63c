use Rattle.std.proofs.Common.{◌-ℤ◌, to_z, of_z, arith}
use Rattle.std.specs.Int.{w128}
use Rattle.std.proofs.lemmas.Int.{ints}
use Rattle.hyd_curves.specs.PointsAsKnots.{knot_of}
use Rattle.hyd_lemmas.proofs.Integers.{product_is}
use Rattle.hyd_lemmas.proofs.KnotLines.{line_is}
use Rattle.hyd_curves.proofs.interpolation.on_line.Goals as goal

pub overflow_add-result : goal.overflow_add-result
overflow_add-result c = omega (arith, ints, c.whole_product.ensures.small, c.whole_product-2.ensures.small)

pub returns-clause-value : goal.returns-clause-value
returns-clause-value c =
    let first = c.args.first in
    let second = c.args.second in
    let line = line_is (knot_of first) (knot_of second) c.args.place c.whole_product.result c.whole_product-2.result
    c.requires.apart
    (product_is c.whole_product.result (to_z w128 (of_z w128 c.difference-width.result)) (to_z w128 (of_z w128
    first.value)) (second.place -ℤ first.place) first.value
    c.whole_product.ensures.value (omega (arith, ints, c.difference-width.ensures))
    (omega (arith, ints, c.requires.first)))
    (product_is c.whole_product-2.result (to_z w128 (of_z w128 c.difference-rise.result)) (to_z w128 (of_z w128
    c.difference-beyond.result)) (second.value -ℤ first.value) (c.args.place -ℤ first.place)
    c.whole_product-2.ensures.value (omega (arith, ints, c.difference-rise.ensures)) (omega (
      arith,
      ints,
      c.difference-beyond.ensures,
    ))) in
    omega (arith, ints, line, c.whole_product.ensures.small, c.whole_product-2.ensures.small)
