use Rattle.std.proofs.Common.{◌-ℤ◌, to_z, of_z, arith}
use Rattle.std.specs.Int.{w128}
use Rattle.std.proofs.lemmas.Int.{ints}
use Rattle.hyd_law.specs.KnotsOfStraightLines.{place_of}
use Rattle.hyd_theorems_on_definitions.proofs.PassedOn.{product_is}
use Rattle.hyd_theorems_on_definitions.proofs.PassedOn.{line_is}
use Rattle.hyd_law.proofs.straight_lines.on_line.Goals as goal

pub overflow_add-result : goal.overflow_add-result
overflow_add-result c = omega (arith, ints, c.whole_product.ensures.small, c.whole_product-2.ensures.small)

pub returns-clause-value : goal.returns-clause-value
returns-clause-value c =
    let first = c.args.first in
    let second = c.args.second in
    let line = line_is (place_of c.args.first) (place_of c.args.second) c.args.d c.whole_product.result
    c.whole_product-2.result c.requires.apart
    (product_is c.whole_product.result (to_z w128 (of_z w128 c.difference-width.result))
    (to_z w128 (of_z w128 c.from.result)) (second.head -ℤ first.head) first.flow
    c.whole_product.ensures.value (omega (arith, ints, c.difference-width.ensures))
    (omega (arith, ints, c.from.ensures)))
    (product_is c.whole_product-2.result (to_z w128 (of_z w128 c.difference-rise.result))
    (to_z w128 (of_z w128 c.difference-beyond.result)) (second.flow -ℤ first.flow) (c.args.d -ℤ first.head)
    c.whole_product-2.ensures.value (omega (arith, ints, c.difference-rise.ensures))
    (omega (arith, ints, c.difference-beyond.ensures))) in
    record {
      num_is = omega (arith, ints, line, c.whole_product.ensures.small, c.whole_product-2.ensures.small);
      den_is = omega (arith, ints, c.difference-width.ensures, c.requires.apart);
      above = omega (arith, ints, c.requires.apart);
    }
