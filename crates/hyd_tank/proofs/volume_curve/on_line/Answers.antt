use Rattle.std.proofs.Common.{◌≡◌, ℕ, ◌*◌, ℤ, pos, ◌-ℤ◌, ◌*ℤ◌, unsigned_abs, sym, ap, subst, ◌∙◌, arith, to_z, of_z}
use Rattle.std.proofs.Common.{w64}
use Rattle.std.specs.Int.{w128}
use Rattle.std.proofs.lemmas.Int.{ints}
use Rattle.hyd_tank.specs.declared.volume_curve.Mixed.{Mixed}
use Rattle.hyd_tank.specs.CurveByLevelOrVolume.{place_of, value_of, line_in, IsMixed, IsAtLeast, IsAtMost}
use Rattle.hyd_tank.proofs.MixedNumbers.{start_is, difference_small, place_small, same_mixed, line_is, line_small}
use Rattle.hyd_tank.proofs.MixedNumbers.{line_from}
use Rattle.hyd_tank.proofs.MixedNumbers.{line_to}
use Rattle.hyd_tank.proofs.volume_curve.on_line.Goals as goal

pub overflow_sub-beyond : goal.overflow_sub-beyond
overflow_sub-beyond c =
    let scale = c.args.scale in
    let first = place_of c.args.first in
    let second = place_of c.args.second in
    let x = c.args.x in
    let n = c.requires.neighbours in
    let few = c.requires.scale_range in
    let from = c.requires.from_first in
    let to = c.requires.to_second in
    let start = start_is scale c.from.result c.in_parts.result first.place c.in_parts.ensures.value c.from.ensures few
    n.first_place in
    let apart = difference_small scale first second x few n from to in
    let small = place_small scale first second x few n from to in
    omega (arith, ints, start, apart.at_least, apart.at_most, small)

pub overflow_cast-result : goal.overflow_cast-result
overflow_cast-result c =
    let scale = c.args.scale in
    let first = place_of c.args.first in
    let second = place_of c.args.second in
    let x = c.args.x in
    let n = c.requires.neighbours in
    let few = c.requires.scale_range in
    let from = c.requires.from_first in
    let to = c.requires.to_second in
    let start = start_is scale c.from.result c.in_parts.result first.place c.in_parts.ensures.value c.from.ensures few
    n.first_place in
    let apart = difference_small scale first second x few n from to in
    let small = place_small scale first second x few n from to in
    omega (arith, ints, start, apart.at_least, apart.at_most, small)

pub overflow_mul-result : goal.overflow_mul-result
overflow_mul-result c =
    let scale = c.args.scale in
    let first = place_of c.args.first in
    let second = place_of c.args.second in
    let x = c.args.x in
    let n = c.requires.neighbours in
    let few = c.requires.scale_range in
    let from = c.requires.from_first in
    let to = c.requires.to_second in
    let start = start_is scale c.from.result c.in_parts.result first.place c.in_parts.ensures.value c.from.ensures few
    n.first_place in
    let apart = difference_small scale first second x few n from to in
    let small = place_small scale first second x few n from to in
    let beyond = unsigned_abs
    (to_z w128 (of_z w128 (to_z w128 (of_z w128 x) -ℤ to_z w128 (of_z w128 c.in_parts.result)))) in
    let b : pos beyond ≡ x -ℤ (pos scale *ℤ first.place) = omega (
      arith,
      ints,
      start,
      apart.at_least,
      apart.at_most,
      small,
    ) in
    let D = unsigned_abs (second.value -ℤ first.value) in
    let high : to_z w64 (of_z w64 c.args.second.value) -ℤ to_z w64 (of_z w64 c.args.first.value) ≡ second.value
    -ℤ first.value = omega (arith, ints, n.whole, n.rise) in
    let rise : c.from-2.result ≡ D = c.from-2.ensures ∙ (c.abs_diff-rise.ensures ∙ ap (λ (z : ℤ). unsigned_abs z)
    (high)) in
    let m = line_small scale first second x beyond c.requires.scale few n b to 1 (omega (arith, few)) in
    let part : c.from-2.result * beyond ≡ D * beyond = ap (λ (k : ℕ). k * beyond) rise in
    omega (arith, part, m.small)

pub returns-clause-value : goal.returns-clause-value
returns-clause-value c =
    let scale = c.args.scale in
    let first = place_of c.args.first in
    let second = place_of c.args.second in
    let x = c.args.x in
    let n = c.requires.neighbours in
    let few = c.requires.scale_range in
    let from = c.requires.from_first in
    let to = c.requires.to_second in
    let start = start_is scale c.from.result c.in_parts.result first.place c.in_parts.ensures.value c.from.ensures few
    n.first_place in
    let apart = difference_small scale first second x few n from to in
    let small = place_small scale first second x few n from to in
    let beyond = unsigned_abs
    (to_z w128 (of_z w128 (to_z w128 (of_z w128 x) -ℤ to_z w128 (of_z w128 c.in_parts.result)))) in
    let b : pos beyond ≡ x -ℤ (pos scale *ℤ first.place) = omega (
      arith,
      ints,
      start,
      apart.at_least,
      apart.at_most,
      small,
    ) in
    let D = unsigned_abs (second.value -ℤ first.value) in
    let W = unsigned_abs (second.place -ℤ first.place) in
    let wide : to_z w64 (of_z w64 c.args.second.place) -ℤ to_z w64 (of_z w64 c.args.first.place) ≡ second.place
    -ℤ first.place = omega (arith, ints, n.first_place, n.second_place) in
    let width : c.from-4.result ≡ W = c.from-4.ensures ∙ (c.abs_diff-width.ensures ∙ ap (λ (z : ℤ). unsigned_abs z)
    (wide)) in
    let high : to_z w64 (of_z w64 c.args.second.value) -ℤ to_z w64 (of_z w64 c.args.first.value) ≡ second.value
    -ℤ first.value = omega (arith, ints, n.whole, n.rise) in
    let rise : c.from-2.result ≡ D = c.from-2.ensures ∙ (c.abs_diff-rise.ensures ∙ ap (λ (z : ℤ). unsigned_abs z)
    (high)) in
    let same = same_mixed (to_z w64 (of_z w64 c.args.first.value)) first.value (c.from-2.result * beyond) (D * beyond)
    (c.from-3.result * c.from-4.result) (scale * W)
    (omega (arith, ints, n.whole)) (ap (λ (k : ℕ). k * beyond) rise)
    (ap (λ (k : ℕ). k * c.from-4.result) c.from-3.ensures ∙ ap (λ (k : ℕ). scale * k) width) in
    subst (λ (m : Mixed). value_of m ≡ line_in scale first second x) (sym same)
    (line_is scale first second x beyond c.requires.scale few n b to)

pub returns-clause-small : goal.returns-clause-small
returns-clause-small c = λ times fits.
    let scale = c.args.scale in
    let first = place_of c.args.first in
    let second = place_of c.args.second in
    let x = c.args.x in
    let n = c.requires.neighbours in
    let few = c.requires.scale_range in
    let from = c.requires.from_first in
    let to = c.requires.to_second in
    let start = start_is scale c.from.result c.in_parts.result first.place c.in_parts.ensures.value c.from.ensures few
    n.first_place in
    let apart = difference_small scale first second x few n from to in
    let small = place_small scale first second x few n from to in
    let beyond = unsigned_abs
    (to_z w128 (of_z w128 (to_z w128 (of_z w128 x) -ℤ to_z w128 (of_z w128 c.in_parts.result)))) in
    let b : pos beyond ≡ x -ℤ (pos scale *ℤ first.place) = omega (
      arith,
      ints,
      start,
      apart.at_least,
      apart.at_most,
      small,
    ) in
    let D = unsigned_abs (second.value -ℤ first.value) in
    let W = unsigned_abs (second.place -ℤ first.place) in
    let wide : to_z w64 (of_z w64 c.args.second.place) -ℤ to_z w64 (of_z w64 c.args.first.place) ≡ second.place
    -ℤ first.place = omega (arith, ints, n.first_place, n.second_place) in
    let width : c.from-4.result ≡ W = c.from-4.ensures ∙ (c.abs_diff-width.ensures ∙ ap (λ (z : ℤ). unsigned_abs z)
    (wide)) in
    let high : to_z w64 (of_z w64 c.args.second.value) -ℤ to_z w64 (of_z w64 c.args.first.value) ≡ second.value
    -ℤ first.value = omega (arith, ints, n.whole, n.rise) in
    let rise : c.from-2.result ≡ D = c.from-2.ensures ∙ (c.abs_diff-rise.ensures ∙ ap (λ (z : ℤ). unsigned_abs z)
    (high)) in
    let same = same_mixed (to_z w64 (of_z w64 c.args.first.value)) first.value (c.from-2.result * beyond) (D * beyond)
    (c.from-3.result * c.from-4.result) (scale * W)
    (omega (arith, ints, n.whole)) (ap (λ (k : ℕ). k * beyond) rise)
    (ap (λ (k : ℕ). k * c.from-4.result) c.from-3.ensures ∙ ap (λ (k : ℕ). scale * k) width) in
    subst (λ (m : Mixed). IsMixed times m) (sym same) (line_small scale first second x beyond c.requires.scale few n b
    to times fits)

pub returns-clause-at_least : goal.returns-clause-at_least
returns-clause-at_least c =
    let scale = c.args.scale in
    let first = place_of c.args.first in
    let second = place_of c.args.second in
    let x = c.args.x in
    let n = c.requires.neighbours in
    let few = c.requires.scale_range in
    let from = c.requires.from_first in
    let to = c.requires.to_second in
    let start = start_is scale c.from.result c.in_parts.result first.place c.in_parts.ensures.value c.from.ensures few
    n.first_place in
    let apart = difference_small scale first second x few n from to in
    let small = place_small scale first second x few n from to in
    let beyond = unsigned_abs
    (to_z w128 (of_z w128 (to_z w128 (of_z w128 x) -ℤ to_z w128 (of_z w128 c.in_parts.result)))) in
    let b : pos beyond ≡ x -ℤ (pos scale *ℤ first.place) = omega (
      arith,
      ints,
      start,
      apart.at_least,
      apart.at_most,
      small,
    ) in
    let D = unsigned_abs (second.value -ℤ first.value) in
    let W = unsigned_abs (second.place -ℤ first.place) in
    let wide : to_z w64 (of_z w64 c.args.second.place) -ℤ to_z w64 (of_z w64 c.args.first.place) ≡ second.place
    -ℤ first.place = omega (arith, ints, n.first_place, n.second_place) in
    let width : c.from-4.result ≡ W = c.from-4.ensures ∙ (c.abs_diff-width.ensures ∙ ap (λ (z : ℤ). unsigned_abs z)
    (wide)) in
    let high : to_z w64 (of_z w64 c.args.second.value) -ℤ to_z w64 (of_z w64 c.args.first.value) ≡ second.value
    -ℤ first.value = omega (arith, ints, n.whole, n.rise) in
    let rise : c.from-2.result ≡ D = c.from-2.ensures ∙ (c.abs_diff-rise.ensures ∙ ap (λ (z : ℤ). unsigned_abs z)
    (high)) in
    let same = same_mixed (to_z w64 (of_z w64 c.args.first.value)) first.value (c.from-2.result * beyond) (D * beyond)
    (c.from-3.result * c.from-4.result) (scale * W)
    (omega (arith, ints, n.whole)) (ap (λ (k : ℕ). k * beyond) rise)
    (ap (λ (k : ℕ). k * c.from-4.result) c.from-3.ensures ∙ ap (λ (k : ℕ). scale * k) width) in
    subst (λ (m : Mixed). IsAtLeast first.value m) (sym same) (line_from scale first second x beyond)

pub returns-clause-at_most : goal.returns-clause-at_most
returns-clause-at_most c =
    let scale = c.args.scale in
    let first = place_of c.args.first in
    let second = place_of c.args.second in
    let x = c.args.x in
    let n = c.requires.neighbours in
    let few = c.requires.scale_range in
    let from = c.requires.from_first in
    let to = c.requires.to_second in
    let start = start_is scale c.from.result c.in_parts.result first.place c.in_parts.ensures.value c.from.ensures few
    n.first_place in
    let apart = difference_small scale first second x few n from to in
    let small = place_small scale first second x few n from to in
    let beyond = unsigned_abs
    (to_z w128 (of_z w128 (to_z w128 (of_z w128 x) -ℤ to_z w128 (of_z w128 c.in_parts.result)))) in
    let b : pos beyond ≡ x -ℤ (pos scale *ℤ first.place) = omega (
      arith,
      ints,
      start,
      apart.at_least,
      apart.at_most,
      small,
    ) in
    let D = unsigned_abs (second.value -ℤ first.value) in
    let W = unsigned_abs (second.place -ℤ first.place) in
    let wide : to_z w64 (of_z w64 c.args.second.place) -ℤ to_z w64 (of_z w64 c.args.first.place) ≡ second.place
    -ℤ first.place = omega (arith, ints, n.first_place, n.second_place) in
    let width : c.from-4.result ≡ W = c.from-4.ensures ∙ (c.abs_diff-width.ensures ∙ ap (λ (z : ℤ). unsigned_abs z)
    (wide)) in
    let high : to_z w64 (of_z w64 c.args.second.value) -ℤ to_z w64 (of_z w64 c.args.first.value) ≡ second.value
    -ℤ first.value = omega (arith, ints, n.whole, n.rise) in
    let rise : c.from-2.result ≡ D = c.from-2.ensures ∙ (c.abs_diff-rise.ensures ∙ ap (λ (z : ℤ). unsigned_abs z)
    (high)) in
    let same = same_mixed (to_z w64 (of_z w64 c.args.first.value)) first.value (c.from-2.result * beyond) (D * beyond)
    (c.from-3.result * c.from-4.result) (scale * W)
    (omega (arith, ints, n.whole)) (ap (λ (k : ℕ). k * beyond) rise)
    (ap (λ (k : ℕ). k * c.from-4.result) c.from-3.ensures ∙ ap (λ (k : ℕ). scale * k) width) in
    subst (λ (m : Mixed). IsAtMost second.value m) (sym same) (line_to scale first second x beyond c.requires.scale
    few n b to)
