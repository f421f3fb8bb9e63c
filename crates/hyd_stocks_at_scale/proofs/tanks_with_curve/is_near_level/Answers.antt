use Rattle.std.proofs.Common.{◌≡◌, ◌<◌, ℤ, pos, ◌+ℤ◌, ◌-ℤ◌, ap, ◌∙◌, arith, to_z, of_z, w64}
use Rattle.std.specs.Int.{w128, int_max, int_min}
use Rattle.std.proofs.lemmas.Int.{ints, to_z-of_z}
use Rattle.hyd_lemmas.proofs.BooleanTests.{lt-no, lt-yes}
use Rattle.hyd_num.specs.Rational.{floor, ceiling}
use Rattle.hyd_net.specs.NumberRanges.{Lies}
use Rattle.hyd_spec.specs.Scale.{at_scale, missed_stock_ticks}
use Rattle.hyd_spec.specs.Tank.{IsNear, placed}
use Rattle.hyd_laws_at_scale.specs.Scales.{parts_of}
use Rattle.hyd_stocks_at_scale.specs.Contents.{bounds_of}
use Rattle.hyd_stocks_at_scale.specs.VolumeCurves.{value_of}
use Rattle.std.proofs.Common.{unsigned_abs, ◌≤◌}
use Rattle.hyd_stocks_at_scale.specs.Motions.{content_limit}
use Rattle.hyd_stocks_at_scale.proofs.Tests.{on_true}
use Rattle.hyd_stocks_at_scale.proofs.Tests.{also_true, also_false}
use Rattle.hyd_stocks_at_scale.proofs.CurveVolumes.{one_value}
use Rattle.hyd_laws_at_scale.proofs.LineAtScale.{sum_is}
use Rattle.hyd_stocks_at_scale.proofs.NearLevels.{near_is, near_back}
use Rattle.hyd_stocks_at_scale.proofs.tanks_with_curve.is_near_level.Goals as goal

pub returns-then-level-least-clause-no : goal.returns-then-level-least-clause-no
returns-then-level-least-clause-no c = λ near.
    let least-kept : to_z w64 (of_z w64 c.args.levels.least) ≡ c.args.levels.least =
    omega (arith, ints, c.requires.levels.from, c.requires.levels.apart, c.requires.levels.up_to) in
    let least : to_z w128 (of_z w128 c.in_parts-least.result) ≡ at_scale (parts_of c.args.scale) c.args.levels.least =
    to_z-of_z w128 c.in_parts-least.result (record { sfits = c.in_parts-least.type_inv })
    ∙ (c.in_parts-least.ensures.value ∙ ap (λ (y : ℤ). at_scale (parts_of c.args.scale) y) least-kept) in
    let most-kept : to_z w64 (of_z w64 c.args.levels.most) ≡ c.args.levels.most =
    omega (arith, ints, c.requires.levels.from, c.requires.levels.apart, c.requires.levels.up_to) in
    let most : to_z w128 (of_z w128 c.in_parts-most.result) ≡ at_scale (parts_of c.args.scale) c.args.levels.most =
    to_z-of_z w128 c.in_parts-most.result (record { sfits = c.in_parts-most.type_inv })
    ∙ (c.in_parts-most.ensures.value ∙ ap (λ (y : ℤ). at_scale (parts_of c.args.scale) y) most-kept) in
    let n = to_z-of_z w128 c.args.level c.ranges.level in
    let less = lt-yes (to_z w128 (of_z w128 c.args.level)) (to_z w128 (of_z w128 c.in_parts-least.result))
    c.if-level-least.true in
    let a = near.above_least in
    omega (arith, ints, a, less, least, n)

pub returns-then-level-most-clause-no : goal.returns-then-level-most-clause-no
returns-then-level-most-clause-no c = λ near.
    let least-kept : to_z w64 (of_z w64 c.args.levels.least) ≡ c.args.levels.least =
    omega (arith, ints, c.requires.levels.from, c.requires.levels.apart, c.requires.levels.up_to) in
    let least : to_z w128 (of_z w128 c.in_parts-least.result) ≡ at_scale (parts_of c.args.scale) c.args.levels.least =
    to_z-of_z w128 c.in_parts-least.result (record { sfits = c.in_parts-least.type_inv })
    ∙ (c.in_parts-least.ensures.value ∙ ap (λ (y : ℤ). at_scale (parts_of c.args.scale) y) least-kept) in
    let most-kept : to_z w64 (of_z w64 c.args.levels.most) ≡ c.args.levels.most =
    omega (arith, ints, c.requires.levels.from, c.requires.levels.apart, c.requires.levels.up_to) in
    let most : to_z w128 (of_z w128 c.in_parts-most.result) ≡ at_scale (parts_of c.args.scale) c.args.levels.most =
    to_z-of_z w128 c.in_parts-most.result (record { sfits = c.in_parts-most.type_inv })
    ∙ (c.in_parts-most.ensures.value ∙ ap (λ (y : ℤ). at_scale (parts_of c.args.scale) y) most-kept) in
    let n = to_z-of_z w128 c.args.level c.ranges.level in
    let less = lt-yes (to_z w128 (of_z w128 c.in_parts-most.result)) (to_z w128 (of_z w128 c.args.level))
    c.if-level-most.true in
    let a = near.below_most in
    omega (arith, ints, a, less, most, n)

pub overflow_sub-low : goal.overflow_sub-low
overflow_sub-low c =
    let m = c.missed-missed.ensures.small in
    omega (arith, ints, c.held.ensures.small, m.at_least, m.at_most)

pub overflow_add-high : goal.overflow_add-high
overflow_add-high c =
    let m = c.missed-missed.ensures.small in
    omega (arith, ints, c.held-2.ensures.small, m.at_least, m.at_most)

pub returns-clause-yes : goal.returns-clause-yes
returns-clause-yes c =
    let least-kept : to_z w64 (of_z w64 c.args.levels.least) ≡ c.args.levels.least =
    omega (arith, ints, c.requires.levels.from, c.requires.levels.apart, c.requires.levels.up_to) in
    let least : to_z w128 (of_z w128 c.in_parts-least.result) ≡ at_scale (parts_of c.args.scale) c.args.levels.least =
    to_z-of_z w128 c.in_parts-least.result (record { sfits = c.in_parts-least.type_inv })
    ∙ (c.in_parts-least.ensures.value ∙ ap (λ (y : ℤ). at_scale (parts_of c.args.scale) y) least-kept) in
    let most-kept : to_z w64 (of_z w64 c.args.levels.most) ≡ c.args.levels.most =
    omega (arith, ints, c.requires.levels.from, c.requires.levels.apart, c.requires.levels.up_to) in
    let most : to_z w128 (of_z w128 c.in_parts-most.result) ≡ at_scale (parts_of c.args.scale) c.args.levels.most =
    to_z-of_z w128 c.in_parts-most.result (record { sfits = c.in_parts-most.type_inv })
    ∙ (c.in_parts-most.ensures.value ∙ ap (λ (y : ℤ). at_scale (parts_of c.args.scale) y) most-kept) in
    let n = to_z-of_z w128 c.args.level c.ranges.level in
    let S = parts_of c.args.scale in
    let range = bounds_of c.args.levels in
    let x = value_of c.args.exact in
    let some : 0 < c.args.exact.of = (let p = c.requires.exact.proper in omega (arith, p)) in
    let m = c.missed-missed.ensures.small in
    let from = lt-no (to_z w128 (of_z w128 c.args.level)) (to_z w128 (of_z w128 c.in_parts-least.result))
    c.if-level-least.false in
    let to = lt-no (to_z w128 (of_z w128 c.in_parts-most.result)) (to_z w128 (of_z w128 c.args.level))
    c.if-level-most.false in
    let ceil : to_z w128 (of_z w128 c.ceiling_of.result) ≡ ceiling (value_of c.args.exact) =
    to_z-of_z w128 c.ceiling_of.result (record { sfits = c.ceiling_of.type_inv })
    ∙ (c.ceiling_of.ensures.value ∙ ap ceiling (one_value c.args.exact)) in
    let floored : to_z w128 (of_z w128 c.floor_of.result) ≡ floor (value_of c.args.exact) =
    to_z-of_z w128 c.floor_of.result (record { sfits = c.floor_of.type_inv })
    ∙ (c.floor_of.ensures.value ∙ ap floor (one_value c.args.exact)) in
    let lower = rw (ceil, least, most) at c.held.ensures.value in
    let upper = rw (floored, least, most) at c.held-2.ensures.value in
    let down : to_z w128 (of_z w128 (to_z w128 (of_z w128 c.held.result) -ℤ to_z w128
    (of_z w128 c.missed-missed.result)))
    ≡ int_min (int_max (ceiling (value_of c.args.exact)) (at_scale (parts_of c.args.scale) c.args.levels.least))
    (at_scale (parts_of c.args.scale) c.args.levels.most) -ℤ at_scale (parts_of c.args.scale) (pos missed_stock_ticks) =
    omega (arith, ints, lower, c.held.ensures.small, c.missed-missed.ensures.value, m.at_least, m.at_most) in
    let up : to_z w128 (of_z w128 (to_z w128 (of_z w128 c.held-2.result) +ℤ to_z w128
    (of_z w128 c.missed-missed.result)))
    ≡ int_min (int_max (floor (value_of c.args.exact)) (at_scale (parts_of c.args.scale) c.args.levels.least))
    (at_scale (parts_of c.args.scale) c.args.levels.most) +ℤ at_scale (parts_of c.args.scale) (pos missed_stock_ticks) =
    sum_is c.held-2.result c.missed-missed.result _ (omega (arith, c.held-2.ensures.small))
    (omega (arith, ints, m.at_least, m.at_most))
    (ap (λ (y : ℤ). y +ℤ c.missed-missed.result) upper
    ∙ ap (λ (y : ℤ). int_min (int_max (floor (value_of c.args.exact)) (at_scale (parts_of c.args.scale)
    c.args.levels.least)) (at_scale (parts_of c.args.scale) c.args.levels.most) +ℤ y) c.missed-missed.ensures.value) in
    also_true c.is_within.result
    (Lies (to_z w128 (of_z w128 (to_z w128 (of_z w128 c.held.result) -ℤ to_z w128 (of_z w128 c.missed-missed.result))))
    (to_z w128 (of_z w128 (to_z w128 (of_z w128 c.held-2.result) +ℤ to_z w128 (of_z w128 c.missed-missed.result))))
    (to_z w128 (of_z w128 c.args.level)))
    (IsNear (parts_of c.args.scale) (bounds_of c.args.levels)
    (placed (parts_of c.args.scale) (bounds_of c.args.levels) (bounds_of c.args.levels) (value_of c.args.exact)
    (value_of c.args.exact)) c.args.level)
    c.is_within.ensures.yes
    (λ h. let a = h.at_least in
    let b = h.at_most in
    near_is S range x c.args.level some (omega (arith, ints, from, least, n)) (omega (arith, ints, to, most, n))
    (omega (arith, ints, a, down, n)) (omega (arith, ints, b, up, n)))

pub returns-clause-no : goal.returns-clause-no
returns-clause-no c =
    let least-kept : to_z w64 (of_z w64 c.args.levels.least) ≡ c.args.levels.least =
    omega (arith, ints, c.requires.levels.from, c.requires.levels.apart, c.requires.levels.up_to) in
    let least : to_z w128 (of_z w128 c.in_parts-least.result) ≡ at_scale (parts_of c.args.scale) c.args.levels.least =
    to_z-of_z w128 c.in_parts-least.result (record { sfits = c.in_parts-least.type_inv })
    ∙ (c.in_parts-least.ensures.value ∙ ap (λ (y : ℤ). at_scale (parts_of c.args.scale) y) least-kept) in
    let most-kept : to_z w64 (of_z w64 c.args.levels.most) ≡ c.args.levels.most =
    omega (arith, ints, c.requires.levels.from, c.requires.levels.apart, c.requires.levels.up_to) in
    let most : to_z w128 (of_z w128 c.in_parts-most.result) ≡ at_scale (parts_of c.args.scale) c.args.levels.most =
    to_z-of_z w128 c.in_parts-most.result (record { sfits = c.in_parts-most.type_inv })
    ∙ (c.in_parts-most.ensures.value ∙ ap (λ (y : ℤ). at_scale (parts_of c.args.scale) y) most-kept) in
    let n = to_z-of_z w128 c.args.level c.ranges.level in
    let S = parts_of c.args.scale in
    let range = bounds_of c.args.levels in
    let x = value_of c.args.exact in
    let some : 0 < c.args.exact.of = (let p = c.requires.exact.proper in omega (arith, p)) in
    let m = c.missed-missed.ensures.small in
    let from = lt-no (to_z w128 (of_z w128 c.args.level)) (to_z w128 (of_z w128 c.in_parts-least.result))
    c.if-level-least.false in
    let to = lt-no (to_z w128 (of_z w128 c.in_parts-most.result)) (to_z w128 (of_z w128 c.args.level))
    c.if-level-most.false in
    let ceil : to_z w128 (of_z w128 c.ceiling_of.result) ≡ ceiling (value_of c.args.exact) =
    to_z-of_z w128 c.ceiling_of.result (record { sfits = c.ceiling_of.type_inv })
    ∙ (c.ceiling_of.ensures.value ∙ ap ceiling (one_value c.args.exact)) in
    let floored : to_z w128 (of_z w128 c.floor_of.result) ≡ floor (value_of c.args.exact) =
    to_z-of_z w128 c.floor_of.result (record { sfits = c.floor_of.type_inv })
    ∙ (c.floor_of.ensures.value ∙ ap floor (one_value c.args.exact)) in
    let lower = rw (ceil, least, most) at c.held.ensures.value in
    let upper = rw (floored, least, most) at c.held-2.ensures.value in
    let down : to_z w128 (of_z w128 (to_z w128 (of_z w128 c.held.result) -ℤ to_z w128
    (of_z w128 c.missed-missed.result)))
    ≡ int_min (int_max (ceiling (value_of c.args.exact)) (at_scale (parts_of c.args.scale) c.args.levels.least))
    (at_scale (parts_of c.args.scale) c.args.levels.most) -ℤ at_scale (parts_of c.args.scale) (pos missed_stock_ticks) =
    omega (arith, ints, lower, c.held.ensures.small, c.missed-missed.ensures.value, m.at_least, m.at_most) in
    let up : to_z w128 (of_z w128 (to_z w128 (of_z w128 c.held-2.result) +ℤ to_z w128
    (of_z w128 c.missed-missed.result)))
    ≡ int_min (int_max (floor (value_of c.args.exact)) (at_scale (parts_of c.args.scale) c.args.levels.least))
    (at_scale (parts_of c.args.scale) c.args.levels.most) +ℤ at_scale (parts_of c.args.scale) (pos missed_stock_ticks) =
    sum_is c.held-2.result c.missed-missed.result _ (omega (arith, c.held-2.ensures.small))
    (omega (arith, ints, m.at_least, m.at_most))
    (ap (λ (y : ℤ). y +ℤ c.missed-missed.result) upper
    ∙ ap (λ (y : ℤ). int_min (int_max (floor (value_of c.args.exact)) (at_scale (parts_of c.args.scale)
    c.args.levels.least)) (at_scale (parts_of c.args.scale) c.args.levels.most) +ℤ y) c.missed-missed.ensures.value) in
    also_false c.is_within.result
    (Lies (to_z w128 (of_z w128 (to_z w128 (of_z w128 c.held.result) -ℤ to_z w128 (of_z w128 c.missed-missed.result))))
    (to_z w128 (of_z w128 (to_z w128 (of_z w128 c.held-2.result) +ℤ to_z w128 (of_z w128 c.missed-missed.result))))
    (to_z w128 (of_z w128 c.args.level)))
    (IsNear (parts_of c.args.scale) (bounds_of c.args.levels)
    (placed (parts_of c.args.scale) (bounds_of c.args.levels) (bounds_of c.args.levels) (value_of c.args.exact)
    (value_of c.args.exact)) c.args.level)
    c.is_within.ensures.no
    (λ near. let back = near_back S range x c.args.level some (omega (arith, ints, from, least, n))
    (omega (arith, ints, to, most, n)) near in
    let a = back.0 in
    let b = back.1 in
    record { at_least = omega (arith, ints, a, down, n); at_most = omega (arith, ints, b, up, n) })

pub returns-clause-small : goal.returns-clause-small
returns-clause-small c =
    let n = to_z-of_z w128 c.args.level c.ranges.level in
    let k = to_z-of_z w128 c.in_parts-least.result (record { sfits = c.in_parts-least.type_inv }) in
    let m = to_z-of_z w128 c.in_parts-most.result (record { sfits = c.in_parts-most.type_inv }) in
    let from = lt-no (to_z w128 (of_z w128 c.args.level)) (to_z w128 (of_z w128 c.in_parts-least.result))
    c.if-level-least.false in
    let to = lt-no (to_z w128 (of_z w128 c.in_parts-most.result)) (to_z w128 (of_z w128 c.args.level))
    c.if-level-most.false in
    on_true c.is_within.result (unsigned_abs c.args.level ≤ content_limit)
    (λ e. omega (arith, ints, from, to, n, k, m, c.in_parts-least.ensures.small, c.in_parts-most.ensures.small))
