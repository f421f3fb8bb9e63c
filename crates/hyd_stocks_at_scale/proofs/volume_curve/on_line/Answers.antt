use Rattle.std.proofs.Common.{◌≡◌, pos, ◌-ℤ◌, arith, to_z, of_z, w64}
use Rattle.std.specs.Int.{w128}
use Rattle.std.proofs.lemmas.Int.{ints, to_z-of_z}
use Rattle.hyd_stocks_at_scale.specs.VolumeCurves.{place_of}
use Rattle.hyd_stocks_at_scale.proofs.VolumeCurves.{place_small, beyond_small, area_small, line_is, line_from, line_to}
use Rattle.hyd_stocks_at_scale.proofs.volume_curve.on_line.Goals as goal

pub beyond-requires-clause-small : goal.beyond-requires-clause-small
beyond-requires-clause-small c =
    let x = to_z-of_z w128 c.args.x c.ranges.x in
    rw x (place_small c.args.scale (place_of c.args.first) (place_of c.args.second) c.args.x c.requires.scale
    c.requires.neighbours c.requires.from_first c.requires.to_second)

pub share-steps-requires-clause-area : goal.share-steps-requires-clause-area
share-steps-requires-clause-area c =
    let n = c.requires.neighbours in
    let x = to_z-of_z w128 c.args.x c.ranges.x in
    let p : to_z w64 (of_z w64 c.args.first.place) ≡ c.args.first.place = omega (arith, ints, n.first_place) in
    let b = rw (x, p) at c.beyond.ensures in
    let w : pos c.rise-width.result ≡ c.args.second.place -ℤ c.args.first.place =
    omega (arith, ints, c.rise-width.ensures, n.first_place, n.second_place) in
    let h : pos c.rise-height.result ≡ c.args.second.value -ℤ c.args.first.value =
    omega (arith, ints, c.rise-height.ensures, n.first_value, n.second_value) in
    area_small c.args.scale (place_of c.args.first) (place_of c.args.second) c.args.x c.beyond.result
    c.rise-width.result c.rise-height.result c.requires.scale n b w h

pub share-steps-requires-clause-within : goal.share-steps-requires-clause-within
share-steps-requires-clause-within c =
    let n = c.requires.neighbours in
    let x = to_z-of_z w128 c.args.x c.ranges.x in
    let p : to_z w64 (of_z w64 c.args.first.place) ≡ c.args.first.place = omega (arith, ints, n.first_place) in
    let b = rw (x, p) at c.beyond.ensures in
    let w : pos c.rise-width.result ≡ c.args.second.place -ℤ c.args.first.place =
    omega (arith, ints, c.rise-width.ensures, n.first_place, n.second_place) in
    let h : pos c.rise-height.result ≡ c.args.second.value -ℤ c.args.first.value =
    omega (arith, ints, c.rise-height.ensures, n.first_value, n.second_value) in
    beyond_small c.args.scale (place_of c.args.first) (place_of c.args.second) c.args.x c.beyond.result
    c.rise-width.result c.rise-height.result c.requires.scale n b w h c.requires.to_second

pub overflow_add-result : goal.overflow_add-result
overflow_add-result c = omega (arith, ints, c.in_parts.ensures.small, c.share-steps.ensures.small)

pub returns-clause-value : goal.returns-clause-value
returns-clause-value c =
    let n = c.requires.neighbours in
    let x = to_z-of_z w128 c.args.x c.ranges.x in
    let p : to_z w64 (of_z w64 c.args.first.place) ≡ c.args.first.place = omega (arith, ints, n.first_place) in
    let v : to_z w64 (of_z w64 c.args.first.value) ≡ c.args.first.value = omega (arith, ints, n.first_value) in
    let b = rw (x, p) at c.beyond.ensures in
    let w : pos c.rise-width.result ≡ c.args.second.place -ℤ c.args.first.place =
    omega (arith, ints, c.rise-width.ensures, n.first_place, n.second_place) in
    let h : pos c.rise-height.result ≡ c.args.second.value -ℤ c.args.first.value =
    omega (arith, ints, c.rise-height.ensures, n.first_value, n.second_value) in
    let start = rw v at c.in_parts.ensures.value in
    line_is c.args.scale (place_of c.args.first) (place_of c.args.second) c.args.x c.beyond.result
    c.rise-width.result c.rise-height.result c.requires.scale n b w h c.share-steps.result.0 c.share-steps.result.1
    c.share-steps.ensures.value _ (omega (arith, ints, start, c.in_parts.ensures.small, c.share-steps.ensures.small))

pub returns-clause-range : goal.returns-clause-range
returns-clause-range c =
    let n = c.requires.neighbours in
    let w : pos c.rise-width.result ≡ c.args.second.place -ℤ c.args.first.place =
    omega (arith, ints, c.rise-width.ensures, n.first_place, n.second_place) in
    record {
      proper = c.share-steps.ensures.rest;
      whole = omega (arith, ints, c.in_parts.ensures.small, c.share-steps.ensures.small);
      of = omega (arith, ints, w, n.width);
    }

pub returns-clause-at_least : goal.returns-clause-at_least
returns-clause-at_least c =
    let n = c.requires.neighbours in
    let x = to_z-of_z w128 c.args.x c.ranges.x in
    let p : to_z w64 (of_z w64 c.args.first.place) ≡ c.args.first.place = omega (arith, ints, n.first_place) in
    let v : to_z w64 (of_z w64 c.args.first.value) ≡ c.args.first.value = omega (arith, ints, n.first_value) in
    let b = rw (x, p) at c.beyond.ensures in
    let w : pos c.rise-width.result ≡ c.args.second.place -ℤ c.args.first.place =
    omega (arith, ints, c.rise-width.ensures, n.first_place, n.second_place) in
    let h : pos c.rise-height.result ≡ c.args.second.value -ℤ c.args.first.value =
    omega (arith, ints, c.rise-height.ensures, n.first_value, n.second_value) in
    let start = rw v at c.in_parts.ensures.value in
    line_from c.args.scale (place_of c.args.first) (place_of c.args.second) c.args.x c.beyond.result
    c.rise-width.result c.rise-height.result c.requires.scale n b w h c.share-steps.result.0 c.share-steps.result.1
    c.share-steps.ensures.value _ (omega (arith, ints, start, c.in_parts.ensures.small, c.share-steps.ensures.small))

pub returns-clause-at_most : goal.returns-clause-at_most
returns-clause-at_most c =
    let n = c.requires.neighbours in
    let x = to_z-of_z w128 c.args.x c.ranges.x in
    let p : to_z w64 (of_z w64 c.args.first.place) ≡ c.args.first.place = omega (arith, ints, n.first_place) in
    let v : to_z w64 (of_z w64 c.args.first.value) ≡ c.args.first.value = omega (arith, ints, n.first_value) in
    let b = rw (x, p) at c.beyond.ensures in
    let w : pos c.rise-width.result ≡ c.args.second.place -ℤ c.args.first.place =
    omega (arith, ints, c.rise-width.ensures, n.first_place, n.second_place) in
    let h : pos c.rise-height.result ≡ c.args.second.value -ℤ c.args.first.value =
    omega (arith, ints, c.rise-height.ensures, n.first_value, n.second_value) in
    let start = rw v at c.in_parts.ensures.value in
    line_to c.args.scale (place_of c.args.first) (place_of c.args.second) c.args.x c.beyond.result
    c.rise-width.result c.rise-height.result c.requires.scale n b w h c.share-steps.result.0 c.share-steps.result.1
    c.share-steps.ensures.value _ (omega (arith, ints, start, c.in_parts.ensures.small, c.share-steps.ensures.small))
    c.requires.to_second
