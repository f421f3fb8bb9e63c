use Rattle.std.proofs.Common.{◌≡◌, ℤ, ◌+ℤ◌, ◌-ℤ◌, sym, ap, ◌∙◌, arith, to_z, of_z, w64}
use Rattle.std.specs.Int.{w128}
use Rattle.std.proofs.lemmas.Int.{ints, to_z-of_z}
use Rattle.hyd_lemmas.proofs.BooleanTests.{le-yes, le-no}
use Rattle.hyd_spec.specs.Scale.{at_scale}
use Rattle.hyd_spec.specs.Tank.{state_band}
use Rattle.hyd_laws_at_scale.specs.Scales.{parts_of}
use Rattle.hyd_stocks_at_scale.proofs.FullEmptyOrBetween.{full_is, empty_is, between_is}
use Rattle.hyd_stocks_at_scale.proofs.states.state_at.Goals as goal

pub returns-then-level-full : goal.returns-then-level-full
returns-then-level-full c =
    let range = c.requires in
    let S = parts_of c.args.scale in
    let v = to_z-of_z w128 c.args.level c.ranges.level in
    let full-kept : to_z w64 (of_z w64 (to_z w64 (of_z w64 c.args.tank.now.maximum) -ℤ state_band))
    ≡ c.args.tank.now.maximum -ℤ state_band = omega (arith, ints, range.lowest, range.apart, range.highest) in
    let full : to_z w128 (of_z w128 c.in_parts-full.result)
    ≡ at_scale (parts_of c.args.scale) (c.args.tank.now.maximum -ℤ state_band) =
    to_z-of_z w128 c.in_parts-full.result (record { sfits = c.in_parts-full.type_inv })
    ∙ (c.in_parts-full.ensures.value ∙ ap (λ (y : ℤ). at_scale (parts_of c.args.scale) y) full-kept) in
    let a = le-yes (to_z w128 (of_z w128 c.in_parts-full.result)) (to_z w128 (of_z w128 c.args.level)) c.if-level-full.true in
    sym (full_is S c.args.tank.now c.args.level (omega (arith, ints, a, full, v)))

pub returns-then-level-empty : goal.returns-then-level-empty
returns-then-level-empty c =
    let range = c.requires in
    let S = parts_of c.args.scale in
    let v = to_z-of_z w128 c.args.level c.ranges.level in
    let full-kept : to_z w64 (of_z w64 (to_z w64 (of_z w64 c.args.tank.now.maximum) -ℤ state_band))
    ≡ c.args.tank.now.maximum -ℤ state_band = omega (arith, ints, range.lowest, range.apart, range.highest) in
    let full : to_z w128 (of_z w128 c.in_parts-full.result)
    ≡ at_scale (parts_of c.args.scale) (c.args.tank.now.maximum -ℤ state_band) =
    to_z-of_z w128 c.in_parts-full.result (record { sfits = c.in_parts-full.type_inv })
    ∙ (c.in_parts-full.ensures.value ∙ ap (λ (y : ℤ). at_scale (parts_of c.args.scale) y) full-kept) in
    let empty-kept : to_z w64 (of_z w64 (to_z w64 (of_z w64 c.args.tank.now.minimum) +ℤ state_band))
    ≡ c.args.tank.now.minimum +ℤ state_band = omega (arith, ints, range.lowest, range.apart, range.highest) in
    let empty : to_z w128 (of_z w128 c.in_parts-empty.result)
    ≡ at_scale (parts_of c.args.scale) (c.args.tank.now.minimum +ℤ state_band) =
    to_z-of_z w128 c.in_parts-empty.result (record { sfits = c.in_parts-empty.type_inv })
    ∙ (c.in_parts-empty.ensures.value ∙ ap (λ (y : ℤ). at_scale (parts_of c.args.scale) y) empty-kept) in
    let a = le-no (to_z w128 (of_z w128 c.in_parts-full.result)) (to_z w128 (of_z w128 c.args.level)) c.if-level-full.false in
    let b = le-yes (to_z w128 (of_z w128 c.args.level)) (to_z w128 (of_z w128 c.in_parts-empty.result)) c.if-level-empty.true in
    sym (empty_is S c.args.tank.now c.args.level (omega (arith, ints, a, full, v)) (omega (arith, ints, b, empty, v)))

pub returns : goal.returns
returns c =
    let range = c.requires in
    let S = parts_of c.args.scale in
    let v = to_z-of_z w128 c.args.level c.ranges.level in
    let full-kept : to_z w64 (of_z w64 (to_z w64 (of_z w64 c.args.tank.now.maximum) -ℤ state_band))
    ≡ c.args.tank.now.maximum -ℤ state_band = omega (arith, ints, range.lowest, range.apart, range.highest) in
    let full : to_z w128 (of_z w128 c.in_parts-full.result)
    ≡ at_scale (parts_of c.args.scale) (c.args.tank.now.maximum -ℤ state_band) =
    to_z-of_z w128 c.in_parts-full.result (record { sfits = c.in_parts-full.type_inv })
    ∙ (c.in_parts-full.ensures.value ∙ ap (λ (y : ℤ). at_scale (parts_of c.args.scale) y) full-kept) in
    let empty-kept : to_z w64 (of_z w64 (to_z w64 (of_z w64 c.args.tank.now.minimum) +ℤ state_band))
    ≡ c.args.tank.now.minimum +ℤ state_band = omega (arith, ints, range.lowest, range.apart, range.highest) in
    let empty : to_z w128 (of_z w128 c.in_parts-empty.result)
    ≡ at_scale (parts_of c.args.scale) (c.args.tank.now.minimum +ℤ state_band) =
    to_z-of_z w128 c.in_parts-empty.result (record { sfits = c.in_parts-empty.type_inv })
    ∙ (c.in_parts-empty.ensures.value ∙ ap (λ (y : ℤ). at_scale (parts_of c.args.scale) y) empty-kept) in
    let a = le-no (to_z w128 (of_z w128 c.in_parts-full.result)) (to_z w128 (of_z w128 c.args.level)) c.if-level-full.false in
    let b = le-no (to_z w128 (of_z w128 c.args.level)) (to_z w128 (of_z w128 c.in_parts-empty.result)) c.if-level-empty.false in
    sym (between_is S c.args.tank.now c.args.level (omega (arith, ints, a, full, v)) (omega (arith, ints, b, empty, v)))
