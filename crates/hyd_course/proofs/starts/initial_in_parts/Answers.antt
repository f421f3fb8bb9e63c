use Rattle.std.proofs.Common.{◌≡◌, ℤ, ap, ◌∙◌, arith, to_z, of_z}
use Rattle.std.specs.Int.{w128}
use Rattle.std.proofs.lemmas.Int.{ints, to_z-of_z}
use Rattle.hyd_spec.specs.Scale.{at_scale}
use Rattle.hyd_spec.specs.Tank.{walls_of, kept_volume}
use Rattle.hyd_spec_certificates.specs.Stocks.{Stocks}
use Rattle.hyd_laws_at_scale.specs.Scales.{parts_of}
use Rattle.hyd_lemmas.proofs.ListsOptionsAndResults.{item_there}
use Rattle.hyd_course.proofs.InitialStocks.{level_small, kept_small}
use Rattle.hyd_course.proofs.StartsOfMoments.{same_stock}
use Rattle.hyd_course.proofs.starts.initial_in_parts.Goals as goal

pub returns-clause-value : goal.returns-clause-value
returns-clause-value c = λ each at.
    let project = c.args.project.now in
    let S = parts_of c.args.scale in
    let is = c.initial_stock-initial.ensures.value each at in
    let level : c.initial_stock-initial.result.level.lo ≡ each.initial = ap (λ (s : Stocks). s.level.lo) is in
    let volume : c.initial_stock-initial.result.volume.lo ≡ kept_volume (walls_of project each) each.initial =
    ap (λ (s : Stocks). s.volume.lo) is in
    let ls = level_small project c.requires.sound c.args.tank each at in
    let vs = kept_small project c.requires.sound c.args.tank each at in
    let one : to_z w128 (of_z w128 c.from.result) ≡ each.initial = (let f = c.from.ensures in
    omega (arith, ints, f, level, ls)) in
    let two : to_z w128 (of_z w128 c.from-2.result) ≡ kept_volume (walls_of project each) each.initial =
    (let f = c.from-2.ensures in omega (arith, ints, f, volume, vs)) in
    same_stock _ _ _ _
    (to_z-of_z w128 c.in_parts.result (record { sfits = c.in_parts.type_inv }) ∙ (c.in_parts.ensures.value
    ∙ ap (λ (z : ℤ). at_scale S z) one))
    (to_z-of_z w128 c.in_parts-2.result (record { sfits = c.in_parts-2.type_inv }) ∙ (c.in_parts-2.ensures.value
    ∙ ap (λ (z : ℤ). at_scale S z) two))

pub returns-clause-small : goal.returns-clause-small
returns-clause-small c =
    let project = c.args.project.now in
    let there = item_there project.tanks.list c.args.tank c.requires.tank in
    let each = there.0 in
    let at = there.1 in
    let is = c.initial_stock-initial.ensures.value each at in
    let level : c.initial_stock-initial.result.level.lo ≡ each.initial = ap (λ (s : Stocks). s.level.lo) is in
    let volume : c.initial_stock-initial.result.volume.lo ≡ kept_volume (walls_of project each) each.initial =
    ap (λ (s : Stocks). s.volume.lo) is in
    let ls = level_small project c.requires.sound c.args.tank each at in
    let vs = kept_small project c.requires.sound c.args.tank each at in
    let one : to_z w128 (of_z w128 c.from.result) ≡ each.initial = (let f = c.from.ensures in
    omega (arith, ints, f, level, ls)) in
    let two : to_z w128 (of_z w128 c.from-2.result) ≡ kept_volume (walls_of project each) each.initial =
    (let f = c.from-2.ensures in omega (arith, ints, f, volume, vs)) in
    let first = to_z-of_z w128 c.in_parts.result (record { sfits = c.in_parts.type_inv }) in
    let second = to_z-of_z w128 c.in_parts-2.result (record { sfits = c.in_parts-2.type_inv }) in
    let a = c.in_parts.ensures.small in
    let b = c.in_parts-2.ensures.small in
    record {
      level = omega (arith, ints, a, first, one, ls);
      volume = omega (arith, ints, b, second, two, vs);
    }
