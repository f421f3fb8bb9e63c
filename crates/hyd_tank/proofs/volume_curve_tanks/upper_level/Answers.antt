use Rattle.std.proofs.Common.{◌≡◌, ◌+ℤ◌, pos, arith, refl, rules, sym, subst, ◌∙◌, to_z, of_z, w64, SFits, ℤ}
use Rattle.std.specs.Int.{w128, int_min}
use Rattle.std.proofs.lemmas.Int.{ints, to_z-of_z}
use Rattle.hyd_num.specs.Rational.{ceiling}
use Rattle.hyd_spec.specs.Tank.{Curve, level_at}
use Rattle.hyd_tank.specs.Contents.{bounds_of, in_ticks, IsBetween}
use Rattle.hyd_tank.proofs.LevelAndVolumeEnds.{ceiling_held}
use Rattle.hyd_tank.proofs.TanksWithVolumeCurve.{on_curve_volume, end_along, ceiling_level}
use Rattle.hyd_tank.proofs.volume_curve_tanks.upper_level.Goals as goal

pub returns-in-Some : goal.returns-in-Some
returns-in-Some c =
    let tank = c.args.tank.now in
    let points = c.args.points.now in
    let fits : SFits w64 c.in-Some.bound = search rules in
    let i = int_min tank.maximum (ceiling (level_at 1 (Curve points) tank (record {
      num = c.args.parts;
      den = c.args.scale;
    })) +ℤ c.args.widening) in
    to_z-of_z w64 c.in-Some.bound fits ∙ sym (c.in-Some.ensures.bound i)
    ∙ end_along tank points c.args.volumes c.level_bounds-levels.result c.args.scale c.args.parts
    (to_z w128 (of_z w128 c.from.result)) (to_z w128 (of_z w128 c.args.parts)) i c.requires.volumes
    c.level_bounds-levels.ensures.value (omega (arith, ints)) (to_z-of_z w128 c.args.parts c.ranges.parts)

pub value_at-value-requires-clause-on_curve : goal.value_at-value-requires-clause-on_curve
value_at-value-requires-clause-on_curve c =
    let b : to_z w128 (of_z w128 c.from.result) ≡ pos c.args.scale = omega (arith, ints) in
    on_curve_volume c.args.tank.now c.args.points.now c.args.volumes c.args.scale (to_z w128 (of_z w128 c.args.parts))
    c.requires.volumes
    (subst (λ (z : ℤ). IsBetween (bounds_of c.args.volumes) (in_ticks z (to_z w128 (of_z w128 c.args.parts)))) b
    (c.in_default.ensures.between refl))

pub ceiling_of-requires-clause-small : goal.ceiling_of-requires-clause-small
ceiling_of-requires-clause-small c = c.value_at-value.ensures.small 1 (omega arith)

pub returns : goal.returns
returns c =
    let tank = c.args.tank.now in
    let points = c.args.points.now in
    let p = to_z-of_z w128 c.args.parts c.ranges.parts in
    let i = int_min tank.maximum (ceiling (level_at 1 (Curve points) tank (record {
      num = c.args.parts;
      den = c.args.scale;
    })) +ℤ c.args.widening) in
    let exact = ceiling_level tank points c.args.scale c.args.parts (to_z w128 (of_z w128 c.args.parts))
    c.ceiling_of.result c.value_at-value.result (omega (arith, ints))
    (c.value_at-value.ensures.small 1 (omega arith)).some p c.value_at-value.ensures.value c.ceiling_of.ensures.value in
    ceiling_held tank c.level_bounds-levels.result c.ceiling_of.result c.held.result
    (ceiling (level_at 1 (Curve points) tank (record {
      num = c.args.parts;
      den = c.args.scale;
    }))) c.args.widening c.moved_up.result
    c.level_bounds-levels.ensures.value (record { sfits = c.ceiling_of.type_inv }) (record {
      sfits = c.held.type_inv;
    }) c.ranges.widening (record { sfits = c.moved_up.type_inv })
    exact c.held.ensures.value c.moved_up.ensures
    ∙ sym (c.in_default.ensures.inside refl i)
    ∙ end_along tank points c.args.volumes c.level_bounds-levels.result c.args.scale c.args.parts
    (to_z w128 (of_z w128 c.from.result)) (to_z w128 (of_z w128 c.args.parts)) i c.requires.volumes
    c.level_bounds-levels.ensures.value (omega (arith, ints)) p
