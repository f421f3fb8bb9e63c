use Rattle.std.proofs.Common.{◌≡◌, ◌-ℤ◌, to_z, of_z, w64, ap, ◌∙◌, arith}
use Rattle.std.specs.Int.{w128}
use Rattle.std.proofs.lemmas.Int.{ints, to_z-of_z}
use Rattle.hyd_spec.specs.Scale.{at_scale}
use Rattle.hyd_law.specs.KnotsOfStraightLines.{place_of}
use Rattle.hyd_lemmas.proofs.Integers.{product_is}
use Rattle.hyd_laws_at_scale.specs.Scales.{parts_of}
use Rattle.hyd_laws_at_scale.proofs.LineAtScale.{line_is, sum_is}
use Rattle.hyd_laws_at_scale.proofs.straight_lines.on_line.Goals as goal

pub returns-clause-value : goal.returns-clause-value
returns-clause-value c =
    let first = c.args.first in
    let second = c.args.second in
    let S = parts_of c.args.scale in
    let head : to_z w64 (of_z w64 c.args.first.head) ≡ c.args.first.head =
    omega (arith, ints, c.requires.first.head_range) in
    let width : c.difference-width.result ≡ c.args.second.head -ℤ c.args.first.head =
    omega (arith, ints, c.difference-width.ensures) in
    let kept : to_z w128 (of_z w128 c.difference-width.result) ≡ c.args.second.head -ℤ c.args.first.head =
    to_z-of_z w128 c.difference-width.result (record { sfits = c.difference-width.type_inv }) ∙ width in
    let wide = c.in_parts.ensures.value ∙ ap (at_scale S) kept in
    let d = to_z-of_z w64 c.args.d c.ranges.d in
    let far = to_z-of_z w128 c.beyond.result (record { sfits = c.beyond.type_inv })
    ∙ (rw (d, head) at c.beyond.ensures.value) in
    let line = line_is S (place_of c.args.first) (place_of c.args.second) c.args.d c.in_parts.result
    c.product.result c.product-2.result c.requires.apart wide
    (product_is c.product.result (to_z w128 (of_z w128 c.in_parts.result)) (to_z w128 (of_z w128 c.from.result))
    c.in_parts.result first.flow c.product.ensures.value
    (to_z-of_z w128 c.in_parts.result (record { sfits = c.in_parts.type_inv }))
    (omega (arith, ints, c.from.ensures)))
    (product_is c.product-2.result (to_z w128 (of_z w128 c.beyond.result))
    (to_z w128 (of_z w128 c.difference-rise.result))
    (c.args.d -ℤ at_scale S first.head) (second.flow -ℤ first.flow) c.product-2.ensures.value far
    (omega (arith, ints, c.difference-rise.ensures))) in
    record {
      num_is = sum_is c.product.result c.product-2.result _ c.product.ensures.small c.product-2.ensures.small line;
      den_is = omega (arith, ints, c.difference-width.ensures, c.requires.apart);
      above = omega (arith, ints, c.requires.apart);
    }

pub overflow_add-result : goal.overflow_add-result
overflow_add-result c = omega (arith, ints, c.product.ensures.small, c.product-2.ensures.small)
