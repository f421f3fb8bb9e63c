use Rattle.std.proofs.Common.{◌≡◌, to_z, of_z, w64, ap, ◌∙◌, arith}
use Rattle.std.specs.Int.{w128}
use Rattle.std.proofs.lemmas.Int.{ints, to_z-of_z}
use Rattle.hyd_num.specs.Rational.{ceiling}
use Rattle.hyd_spec.specs.Scale.{at_scale}
use Rattle.hyd_spec.specs.DemandsHeadsAndPumpLifts.{pressure_value}
use Rattle.hyd_spec_witnesses.specs.EnclosingFunctionsAtScale.{quadratic_low_at}
use Rattle.hyd_law.proofs.BetweenPressures.{between_is, all_is, hi_not_negative}
use Rattle.hyd_laws_at_scale.specs.Scales.{parts_of}
use Rattle.hyd_laws_at_scale.proofs.Pressures.{high_small, none_is, parts_not_negative, rest_in_range}
use Rattle.hyd_laws_at_scale.proofs.demand_windows.driven_low.Goals as goal

pub in_parts-requires : goal.in_parts-requires
in_parts-requires c =
    let l = c.args.law.now in
    let small = high_small l.us l.required l.pf c.requires.sound.all in
    omega (arith, ints, small)

pub returns-then-is_up_to-clause-value : goal.returns-then-is_up_to-clause-value
returns-then-is_up_to-clause-value c =
    let l = c.args.law.now in
    let S = parts_of c.args.scale in
    let small = high_small l.us l.minimum l.p0 c.requires.sound.none in
    let kept : to_z w128 (of_z w128 c.args.law.now.p0.hi) ≡ c.args.law.now.p0.hi = omega (arith, ints, small) in
    let minimum : c.in_parts-minimum.result ≡ at_scale (parts_of c.args.scale) (ceiling (pressure_value
    c.args.law.now.us c.args.law.now.minimum)) =
    c.in_parts-minimum.ensures.value ∙ ap (at_scale S) (kept ∙ c.requires.sound.none.ceiling_is) in
    let m = to_z-of_z w128 c.in_parts-minimum.result (record { sfits = c.in_parts-minimum.type_inv }) in
    let p = to_z-of_z w64 c.args.p c.ranges.p in
    none_is (at_scale S l.demand) (at_scale S (ceiling (pressure_value l.us l.minimum)))
    (at_scale S (ceiling (pressure_value l.us l.required))) (quadratic_low_at S l.cap) c.args.p
    (rw (m, p, minimum) at c.if-is_up_to.ensures.at_most)

pub returns-then-is_from-clause-value : goal.returns-then-is_from-clause-value
returns-then-is_from-clause-value c =
    let l = c.args.law.now in
    let S = parts_of c.args.scale in
    let small = high_small l.us l.minimum l.p0 c.requires.sound.none in
    let kept : to_z w128 (of_z w128 c.args.law.now.p0.hi) ≡ c.args.law.now.p0.hi = omega (arith, ints, small) in
    let minimum : c.in_parts-minimum.result ≡ at_scale (parts_of c.args.scale) (ceiling (pressure_value
    c.args.law.now.us c.args.law.now.minimum)) =
    c.in_parts-minimum.ensures.value ∙ ap (at_scale S) (kept ∙ c.requires.sound.none.ceiling_is) in
    let larger = high_small l.us l.required l.pf c.requires.sound.all in
    let also : to_z w128 (of_z w128 c.args.law.now.pf.hi) ≡ c.args.law.now.pf.hi = omega (arith, ints, larger) in
    let required : c.in_parts.result ≡ at_scale (parts_of c.args.scale) (ceiling (pressure_value
    c.args.law.now.us c.args.law.now.required)) =
    c.in_parts.ensures.value ∙ ap (at_scale S) (also ∙ c.requires.sound.all.ceiling_is) in
    let demand : c.in_parts-demand.result ≡ at_scale (parts_of c.args.scale) c.args.law.now.demand =
    c.in_parts-demand.ensures.value ∙ ap (at_scale S) (omega (arith, ints, c.from.ensures)) in
    let m = to_z-of_z w128 c.in_parts-minimum.result (record { sfits = c.in_parts-minimum.type_inv }) in
    let r = to_z-of_z w128 c.in_parts.result (record { sfits = c.in_parts.type_inv }) in
    let d = to_z-of_z w128 c.in_parts-demand.result (record { sfits = c.in_parts-demand.type_inv }) in
    let p = to_z-of_z w64 c.args.p c.ranges.p in
    d ∙ all_is (at_scale S l.demand) (at_scale S (ceiling (pressure_value l.us l.minimum)))
    (at_scale S (ceiling (pressure_value l.us l.required))) (quadratic_low_at S l.cap) c.args.p
    c.in_parts-demand.result (rw (m, p, minimum) at c.if-is_up_to.ensures.above)
    (rw (r, p, required) at c.if-is_from.ensures.at_least) demand

pub above-requires : goal.above-requires
above-requires c =
    let l = c.args.law.now in
    let S = parts_of c.args.scale in
    let small = high_small l.us l.minimum l.p0 c.requires.sound.none in
    let kept : to_z w128 (of_z w128 c.args.law.now.p0.hi) ≡ c.args.law.now.p0.hi = omega (arith, ints, small) in
    let minimum : c.in_parts-minimum.result ≡ at_scale (parts_of c.args.scale) c.args.law.now.p0.hi =
    c.in_parts-minimum.ensures.value ∙ ap (at_scale S) kept in
    let m = to_z-of_z w128 c.in_parts-minimum.result (record { sfits = c.in_parts-minimum.type_inv }) in
    let p = to_z-of_z w64 c.args.p c.ranges.p in
    let least = parts_not_negative S l.p0.hi (hi_not_negative l.us l.minimum l.p0 c.requires.sound.none
    c.requires.sound.not_negative) in
    rw (m, p, minimum) (rest_in_range c.args.p (at_scale S l.p0.hi) c.requires.pressure least
    (rw (m, p, minimum) at c.if-is_up_to.ensures.above))

pub quadratic_low-requires-clause-difference : goal.quadratic_low-requires-clause-difference
quadratic_low-requires-clause-difference c =
    let l = c.args.law.now in
    let S = parts_of c.args.scale in
    let small = high_small l.us l.minimum l.p0 c.requires.sound.none in
    let kept : to_z w128 (of_z w128 c.args.law.now.p0.hi) ≡ c.args.law.now.p0.hi = omega (arith, ints, small) in
    let minimum : c.in_parts-minimum.result ≡ at_scale (parts_of c.args.scale) c.args.law.now.p0.hi =
    c.in_parts-minimum.ensures.value ∙ ap (at_scale S) kept in
    let m = to_z-of_z w128 c.in_parts-minimum.result (record { sfits = c.in_parts-minimum.type_inv }) in
    let p = to_z-of_z w64 c.args.p c.ranges.p in
    let least = parts_not_negative S l.p0.hi (hi_not_negative l.us l.minimum l.p0 c.requires.sound.none
    c.requires.sound.not_negative) in
    let rest = rw (m, p, minimum) at c.above.ensures in
    rw (to_z-of_z w64 c.above.result (record { sfits = c.above.type_inv }), rest)
    (rest_in_range c.args.p (at_scale S l.p0.hi) c.requires.pressure least
    (rw (m, p, minimum) at c.if-is_up_to.ensures.above))

pub returns-clause-value : goal.returns-clause-value
returns-clause-value c =
    let l = c.args.law.now in
    let S = parts_of c.args.scale in
    let small = high_small l.us l.minimum l.p0 c.requires.sound.none in
    let kept : to_z w128 (of_z w128 c.args.law.now.p0.hi) ≡ c.args.law.now.p0.hi = omega (arith, ints, small) in
    let minimum : c.in_parts-minimum.result ≡ at_scale (parts_of c.args.scale) (ceiling (pressure_value
    c.args.law.now.us c.args.law.now.minimum)) =
    c.in_parts-minimum.ensures.value ∙ ap (at_scale S) (kept ∙ c.requires.sound.none.ceiling_is) in
    let larger = high_small l.us l.required l.pf c.requires.sound.all in
    let also : to_z w128 (of_z w128 c.args.law.now.pf.hi) ≡ c.args.law.now.pf.hi = omega (arith, ints, larger) in
    let required : c.in_parts.result ≡ at_scale (parts_of c.args.scale) (ceiling (pressure_value
    c.args.law.now.us c.args.law.now.required)) =
    c.in_parts.ensures.value ∙ ap (at_scale S) (also ∙ c.requires.sound.all.ceiling_is) in
    let demand : c.in_parts-demand.result ≡ at_scale (parts_of c.args.scale) c.args.law.now.demand =
    c.in_parts-demand.ensures.value ∙ ap (at_scale S) (omega (arith, ints, c.from.ensures)) in
    let m = to_z-of_z w128 c.in_parts-minimum.result (record { sfits = c.in_parts-minimum.type_inv }) in
    let r = to_z-of_z w128 c.in_parts.result (record { sfits = c.in_parts.type_inv }) in
    let d = to_z-of_z w128 c.in_parts-demand.result (record { sfits = c.in_parts-demand.type_inv }) in
    let p = to_z-of_z w64 c.args.p c.ranges.p in
    let a = to_z-of_z w64 c.above.result (record { sfits = c.above.type_inv }) in
    let q = to_z-of_z w128 c.quadratic_low.result (record { sfits = c.quadratic_low.type_inv }) in
    let v = to_z-of_z w128 c.lesser.result (record { sfits = c.lesser.type_inv }) in
    let rest = rw (m, p, minimum) at c.above.ensures in
    let flow = rw (a, rest) at c.quadratic_low.ensures.value in
    let value = rw (d, q, demand, flow) at c.lesser.ensures.value in
    v ∙ between_is (at_scale S l.demand) (at_scale S (ceiling (pressure_value l.us l.minimum)))
    (at_scale S (ceiling (pressure_value l.us l.required))) (quadratic_low_at S l.cap) c.args.p c.lesser.result
    (rw (m, p, minimum) at c.if-is_up_to.ensures.above) (rw (r, p, required) at c.if-is_from.ensures.below) value

pub returns-clause-small : goal.returns-clause-small
returns-clause-small c =
    let d = to_z-of_z w128 c.in_parts-demand.result (record { sfits = c.in_parts-demand.type_inv }) in
    let q = to_z-of_z w128 c.quadratic_low.result (record { sfits = c.quadratic_low.type_inv }) in
    let v = to_z-of_z w128 c.lesser.result (record { sfits = c.lesser.type_inv }) in
    let small = rw (d, q) at c.lesser.ensures.small in
    rw v (omega (arith, ints, small, c.quadratic_low.ensures.small, c.in_parts-demand.ensures.small, c.from.ensures))
