use Rattle.std.proofs.Common.{◌≡◌, ap, ◌∙◌, arith}
use Rattle.std.specs.Int.{w128}
use Rattle.std.proofs.lemmas.Int.{ints, clamps, to_z-of_z}
use Rattle.hyd_spec.specs.Scale.{at_scale}
use Rattle.hyd_laws_at_scale.specs.Scales.{parts_of}
use Rattle.hyd_laws_at_scale.proofs.Scales.{held_is}
use Rattle.hyd_laws_at_scale.proofs.composed_windows.held.Goals as goal

pub returns-clause-value : goal.returns-clause-value
returns-clause-value c =
    let least : c.in_parts-least.result ≡ at_scale (parts_of c.args.scale) c.args.least =
    c.in_parts-least.ensures.value ∙ ap (at_scale (parts_of c.args.scale)) (omega (arith, ints, c.from.ensures)) in
    let most : c.in_parts.result ≡ at_scale (parts_of c.args.scale) c.args.most =
    c.in_parts.ensures.value ∙ ap (at_scale (parts_of c.args.scale)) (omega (arith, ints, c.from-2.ensures)) in
    let l = to_z-of_z w128 c.in_parts-least.result (record { sfits = c.in_parts-least.type_inv }) in
    let m = to_z-of_z w128 c.in_parts.result (record { sfits = c.in_parts.type_inv }) in
    let f = to_z-of_z w128 c.args.flow c.ranges.flow in
    let n = to_z-of_z w128 c.min.result (record { sfits = c.min.type_inv }) in
    let lesser = rw (m, f, most) at c.min.ensures.value in
    let greater = rw (n, l, lesser, least) at c.max.ensures.value in
    to_z-of_z w128 c.max.result (record { sfits = c.max.type_inv })
    ∙ held_is (at_scale (parts_of c.args.scale) c.args.least) (at_scale (parts_of c.args.scale) c.args.most)
    c.args.flow c.max.result greater

pub returns-clause-small : goal.returns-clause-small
returns-clause-small c = omega (
  arith,
  ints,
  clamps,
  c.from.ensures,
  c.from-2.ensures,
  c.in_parts-least.ensures.small,
  c.in_parts.ensures.small,
  c.min.ensures.value,
  c.max.ensures.value,
)
