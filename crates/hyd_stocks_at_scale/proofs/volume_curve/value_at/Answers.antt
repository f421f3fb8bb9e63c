use Rattle.std.proofs.Common.{◌≡◌, ◌+◌, ◌-◌, ℤ, pos, ◌*ℤ◌, length, slice_index_or, ap, ◌∙◌, arith, to_z, of_z, w64}
use Rattle.std.specs.Int.{w128}
use Rattle.std.proofs.lemmas.Int.{ints, to_z-of_z}
use Rattle.hyd_net.specs.Curves.{Knot}
use Rattle.hyd_lemmas.proofs.BooleanTests.{lt-no, lt-yes}
use Rattle.hyd_stocks_at_scale.specs.VolumeCurves.{place_of, knot_by}
use Rattle.hyd_stocks_at_scale.proofs.LineAtPlace.{nothing, neighbours, neighbours_at, come_on, value_here}
use Rattle.hyd_stocks_at_scale.proofs.LineAtPlace.{value_at_last, line_along, from_first, to_last}
use Rattle.hyd_stocks_at_scale.proofs.volume_curve.value_at.Goals as goal

pub on_line-requires-clause-neighbours : goal.on_line-requires-clause-neighbours
on_line-requires-clause-neighbours c =
    rw (c.knot_of.ensures, c.knot_of-next.ensures) (neighbours c.args.known c.args.points.now c.loop-i.i
    c.requires.curve (omega arith))

pub returns-then-x-in_parts-clause-value : goal.returns-then-x-in_parts-clause-value
returns-then-x-in_parts-clause-value c =
    let points = c.args.points.now in
    let i = c.loop-i.i in
    let e = to_z-of_z w128 c.args.x c.ranges.x in
    let n = neighbours c.args.known points i c.requires.curve (omega arith) in
    let place : c.knot_of-next.result.place ≡ (knot_by c.args.known (slice_index_or points (i + 1) nothing)).place =
    ap (λ (k : Knot). k.place) c.knot_of-next.ensures in
    let kept : to_z w64 (of_z w64 c.knot_of-next.result.place)
    ≡ (knot_by c.args.known (slice_index_or points (i + 1) nothing)).place = omega
    (arith, ints, place, n.second_place) in
    let reach = c.in_parts.ensures.value ∙ ap (λ (z : ℤ). pos c.args.scale *ℤ z) kept in
    let before = lt-yes (to_z w128 (of_z w128 c.args.x)) (to_z w128 (of_z w128 c.in_parts.result))
    c.if-x-in_parts.true in
    c.on_line.ensures.value
    ∙ line_along c.args.scale (place_of c.knot_of.result) (knot_by c.args.known (slice_index_or points i nothing))
    (place_of c.knot_of-next.result)
    (knot_by c.args.known (slice_index_or points (i + 1) nothing)) (to_z w128 (of_z w128 c.args.x)) c.args.x
    c.knot_of.ensures c.knot_of-next.ensures e
    ∙ value_here c.args.known c.args.scale points c.args.x i c.requires.curve (rw e at c.loop-i.invariant)
    (omega arith) (omega (arith, ints, before, reach, c.in_parts.ensures.small))

pub loop-i-preserved : goal.loop-i-preserved
loop-i-preserved c =
    let points = c.args.points.now in
    let i = c.loop-i.i in
    let n = neighbours c.args.known points i c.requires.curve (omega arith) in
    let place : c.knot_of-next.result.place ≡ (knot_by c.args.known (slice_index_or points (i + 1) nothing)).place =
    ap (λ (k : Knot). k.place) c.knot_of-next.ensures in
    let kept : to_z w64 (of_z w64 c.knot_of-next.result.place)
    ≡ (knot_by c.args.known (slice_index_or points (i + 1) nothing)).place = omega
    (arith, ints, place, n.second_place) in
    let reach = c.in_parts.ensures.value ∙ ap (λ (z : ℤ). pos c.args.scale *ℤ z) kept in
    let from = lt-no (to_z w128 (of_z w128 c.args.x)) (to_z w128 (of_z w128 c.in_parts.result)) c.if-x-in_parts.false in
    come_on c.args.known c.args.scale points (to_z w128 (of_z w128 c.args.x)) i c.loop-i.invariant (omega arith)
    (omega (arith, ints, from, reach, c.in_parts.ensures.small))

pub on_line-requires-2-clause-neighbours : goal.on_line-requires-2-clause-neighbours
on_line-requires-2-clause-neighbours c =
    let points = c.args.points.now in
    rw (c.knot_of-2.ensures, c.knot_of-3.ensures) (neighbours_at c.args.known points (length points - 1 - 1)
    (length points - 1) c.requires.curve (omega arith) (omega arith))

pub returns-clause-value : goal.returns-clause-value
returns-clause-value c =
    let points = c.args.points.now in
    let e = to_z-of_z w128 c.args.x c.ranges.x in
    let i : c.loop-i.i ≡ length points - 1 - 1 = omega arith in
    c.on_line-2.ensures.value
    ∙ line_along c.args.scale (place_of c.knot_of-2.result) (knot_by c.args.known
    (slice_index_or points (length points - 1 - 1) nothing)) (place_of c.knot_of-3.result)
    (knot_by c.args.known (slice_index_or points (length points - 1) nothing)) (to_z w128 (of_z w128 c.args.x))
    c.args.x c.knot_of-2.ensures c.knot_of-3.ensures e
    ∙ value_at_last c.args.known c.args.scale points c.args.x (length points - 1 - 1) (length points - 1)
    c.requires.curve (rw (e, i) at c.loop-i.invariant) (omega arith) (omega arith)

pub returns-then-x-in_parts-clause-at_least : goal.returns-then-x-in_parts-clause-at_least
returns-then-x-in_parts-clause-at_least c =
    from_first c.args.known c.args.points.now c.args.scale c.loop-i.i c.knot_of.result.value c.on_line.result
    c.requires.curve (omega arith)
    (ap (λ (k : Knot). k.value) c.knot_of.ensures) c.on_line.ensures.at_least

pub returns-then-x-in_parts-clause-at_most : goal.returns-then-x-in_parts-clause-at_most
returns-then-x-in_parts-clause-at_most c =
    to_last c.args.known c.args.points.now c.args.scale (c.loop-i.i + 1) c.knot_of-next.result.value c.on_line.result
    c.requires.curve (omega arith)
    (ap (λ (k : Knot). k.value) c.knot_of-next.ensures) c.on_line.ensures.at_most

pub returns-clause-at_least : goal.returns-clause-at_least
returns-clause-at_least c =
    from_first c.args.known c.args.points.now c.args.scale (length c.args.points.now - 1 - 1)
    c.knot_of-2.result.value c.on_line-2.result c.requires.curve (omega arith)
    (ap (λ (k : Knot). k.value) c.knot_of-2.ensures) c.on_line-2.ensures.at_least

pub returns-clause-at_most : goal.returns-clause-at_most
returns-clause-at_most c =
    to_last c.args.known c.args.points.now c.args.scale (length c.args.points.now - 1) c.knot_of-3.result.value
    c.on_line-2.result c.requires.curve (omega arith)
    (ap (λ (k : Knot). k.value) c.knot_of-3.ensures) c.on_line-2.ensures.at_most
