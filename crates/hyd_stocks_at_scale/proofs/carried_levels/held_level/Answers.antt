use Rattle.std.proofs.Common.{◌≡◌, ℤ, pos, ◌*ℤ◌, ap, subst, ◌∙◌, arith, to_z, of_z, w64}
use Rattle.std.specs.Int.{w128}
use Rattle.std.proofs.lemmas.Int.{ints, to_z-of_z}
use Rattle.hyd_num.specs.Rational.{whole}
use Rattle.hyd_lemmas.proofs.BooleanTests.{le-yes, le-no, lt-yes, lt-no}
use Rattle.hyd_spec.specs.Scale.{at_scale}
use Rattle.hyd_laws_at_scale.specs.Scales.{parts_of}
use Rattle.hyd_stocks_at_scale.specs.Contents.{bounds_of}
use Rattle.hyd_stocks_at_scale.specs.ExactLevels.{IsLevel}
use Rattle.hyd_stocks_at_scale.proofs.ExactLevels.{held_most, held_least, held_inside}
use Rattle.hyd_stocks_at_scale.proofs.carried_levels.held_level.Goals as goal

pub returns-then-exact-most : goal.returns-then-exact-most
returns-then-exact-most c =
    let S = parts_of c.args.scale in
    let range = bounds_of c.args.levels in
    let limits = c.requires.levels in
    let w : to_z w128 (of_z w128 c.args.exact.whole) ≡ c.args.exact.whole =
    omega (arith, ints, c.requires.exact.whole) in
    let most-kept : to_z w64 (of_z w64 c.args.levels.most) ≡ c.args.levels.most =
    omega (arith, ints, limits.from, limits.apart, limits.up_to) in
    let most : to_z w128 (of_z w128 c.volume_in_shares-most.result)
    ≡ pos 864 *ℤ (pos (parts_of c.args.scale) *ℤ c.args.levels.most) =
    to_z-of_z w128 c.volume_in_shares-most.result (record { sfits = c.volume_in_shares-most.type_inv })
    ∙ (c.volume_in_shares-most.ensures.value ∙ ap (λ (y : ℤ). pos 864 *ℤ (pos
    (parts_of c.args.scale) *ℤ y)) most-kept) in
    let level : to_z w128 (of_z w128 c.in_parts.result) ≡ at_scale (parts_of c.args.scale) c.args.levels.most =
    to_z-of_z w128 c.in_parts.result (record { sfits = c.in_parts.type_inv })
    ∙ (c.in_parts.ensures.value ∙ ap (λ (y : ℤ). at_scale (parts_of c.args.scale) y) most-kept) in
    let h = le-yes (to_z w128 (of_z w128 c.volume_in_shares-most.result)) (to_z w128 (of_z w128 c.args.exact.whole))
    c.if-exact-most.true in
    held_most S range c.args.exact c.whole_level.result c.requires.exact (omega (arith, ints, limits.apart))
    (omega (arith, ints, h, w, most))
    (subst (λ (y : ℤ). IsLevel c.whole_level.result (whole y)) level c.whole_level.ensures)

pub returns-then-exact-least : goal.returns-then-exact-least
returns-then-exact-least c =
    let S = parts_of c.args.scale in
    let range = bounds_of c.args.levels in
    let limits = c.requires.levels in
    let w : to_z w128 (of_z w128 c.args.exact.whole) ≡ c.args.exact.whole =
    omega (arith, ints, c.requires.exact.whole) in
    let least-kept : to_z w64 (of_z w64 c.args.levels.least) ≡ c.args.levels.least =
    omega (arith, ints, limits.from, limits.apart, limits.up_to) in
    let least : to_z w128 (of_z w128 c.volume_in_shares-least.result)
    ≡ pos 864 *ℤ (pos (parts_of c.args.scale) *ℤ c.args.levels.least) =
    to_z-of_z w128 c.volume_in_shares-least.result (record { sfits = c.volume_in_shares-least.type_inv })
    ∙ (c.volume_in_shares-least.ensures.value ∙ ap (λ (y : ℤ). pos 864 *ℤ (pos
    (parts_of c.args.scale) *ℤ y)) least-kept) in
    let level : to_z w128 (of_z w128 c.in_parts-then-exact-least.result)
    ≡ at_scale (parts_of c.args.scale) c.args.levels.least =
    to_z-of_z w128 c.in_parts-then-exact-least.result (record { sfits = c.in_parts-then-exact-least.type_inv })
    ∙ (c.in_parts-then-exact-least.ensures.value ∙ ap (λ (y : ℤ). at_scale (parts_of c.args.scale) y) least-kept) in
    let h = lt-yes (to_z w128 (of_z w128 c.args.exact.whole)) (to_z w128 (of_z w128 c.volume_in_shares-least.result))
    c.if-exact-least.true in
    held_least S range c.args.exact c.whole_level-then-exact-least.result c.requires.exact
    (omega (arith, ints, limits.apart)) (omega (arith, ints, h, w, least))
    (subst (λ (y : ℤ). IsLevel c.whole_level-then-exact-least.result (whole y)) level
    c.whole_level-then-exact-least.ensures)

pub returns : goal.returns
returns c =
    let S = parts_of c.args.scale in
    let range = bounds_of c.args.levels in
    let limits = c.requires.levels in
    let w : to_z w128 (of_z w128 c.args.exact.whole) ≡ c.args.exact.whole =
    omega (arith, ints, c.requires.exact.whole) in
    let least-kept : to_z w64 (of_z w64 c.args.levels.least) ≡ c.args.levels.least =
    omega (arith, ints, limits.from, limits.apart, limits.up_to) in
    let least : to_z w128 (of_z w128 c.volume_in_shares-least.result)
    ≡ pos 864 *ℤ (pos (parts_of c.args.scale) *ℤ c.args.levels.least) =
    to_z-of_z w128 c.volume_in_shares-least.result (record { sfits = c.volume_in_shares-least.type_inv })
    ∙ (c.volume_in_shares-least.ensures.value ∙ ap (λ (y : ℤ). pos 864 *ℤ (pos
    (parts_of c.args.scale) *ℤ y)) least-kept) in
    let most-kept : to_z w64 (of_z w64 c.args.levels.most) ≡ c.args.levels.most =
    omega (arith, ints, limits.from, limits.apart, limits.up_to) in
    let most : to_z w128 (of_z w128 c.volume_in_shares-most.result)
    ≡ pos 864 *ℤ (pos (parts_of c.args.scale) *ℤ c.args.levels.most) =
    to_z-of_z w128 c.volume_in_shares-most.result (record { sfits = c.volume_in_shares-most.type_inv })
    ∙ (c.volume_in_shares-most.ensures.value ∙ ap (λ (y : ℤ). pos 864 *ℤ (pos
    (parts_of c.args.scale) *ℤ y)) most-kept) in
    let h = lt-no (to_z w128 (of_z w128 c.args.exact.whole)) (to_z w128 (of_z w128 c.volume_in_shares-least.result))
    c.if-exact-least.false in
    let s = le-no (to_z w128 (of_z w128 c.volume_in_shares-most.result)) (to_z w128 (of_z w128 c.args.exact.whole))
    c.if-exact-most.false in
    held_inside S range c.args.exact c.level_of_fine.result c.requires.exact (omega (arith, ints, limits.apart))
    (omega (arith, ints, s, w, most)) (omega (arith, ints, h, w, least)) c.level_of_fine.ensures
