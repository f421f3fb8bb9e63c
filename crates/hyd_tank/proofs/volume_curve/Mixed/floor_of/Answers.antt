use Rattle.std.proofs.Common.{◌≡◌, ℕ, ◌/◌, ◌*◌, ℤ, pos, ◌*ℤ◌, ap, ◌∙◌, arith, to_z, of_z, w64}
use Rattle.std.specs.Int.{w128}
use Rattle.std.proofs.lemmas.Int.{ints}
use Rattle.hyd_tank.proofs.MixedNumbers.{floor_of_mixed, floor_fraction, times_whole}
use Rattle.hyd_tank.proofs.volume_curve.Mixed.floor_of.Goals as goal

pub overflow_add-result : goal.overflow_add-result
overflow_add-result c =
    let times = c.args.times in
    let m = c.args.self in
    let small = c.requires.small in
    let first : to_z w128 (of_z w128 c.from-2.result) ≡ pos times = omega (arith, ints) in
    let second : to_z w64 (of_z w64 m.whole) ≡ m.whole = omega (arith, ints, small.whole) in
    let whole : c.in_parts.result ≡ pos times *ℤ m.whole = c.in_parts.ensures.value
    ∙ ap (λ (z : ℤ). z *ℤ to_z w64 (of_z w64 m.whole)) first ∙ ap (λ (z : ℤ). pos times *ℤ z) second in
    let fraction : c.from.result * m.part / m.of ≡ times * m.part / m.of = ap (λ (n : ℕ). n * m.part / m.of)
    c.from.ensures in
    omega (
      arith,
      ints,
      whole,
      fraction,
      floor_fraction times m small.some small.share,
      times_whole times m.whole
          small.whole,
    )

pub returns-clause-small : goal.returns-clause-small
returns-clause-small c =
    let times = c.args.times in
    let m = c.args.self in
    let small = c.requires.small in
    let first : to_z w128 (of_z w128 c.from-2.result) ≡ pos times = omega (arith, ints) in
    let second : to_z w64 (of_z w64 m.whole) ≡ m.whole = omega (arith, ints, small.whole) in
    let whole : c.in_parts.result ≡ pos times *ℤ m.whole = c.in_parts.ensures.value
    ∙ ap (λ (z : ℤ). z *ℤ to_z w64 (of_z w64 m.whole)) first ∙ ap (λ (z : ℤ). pos times *ℤ z) second in
    let fraction : c.from.result * m.part / m.of ≡ times * m.part / m.of = ap (λ (n : ℕ). n * m.part / m.of)
    c.from.ensures in
    omega (
      arith,
      ints,
      whole,
      fraction,
      floor_fraction times m small.some small.share,
      times_whole times m.whole
          small.whole,
    )

pub returns-clause-value : goal.returns-clause-value
returns-clause-value c =
    let times = c.args.times in
    let m = c.args.self in
    let small = c.requires.small in
    let first : to_z w128 (of_z w128 c.from-2.result) ≡ pos times = omega (arith, ints) in
    let second : to_z w64 (of_z w64 m.whole) ≡ m.whole = omega (arith, ints, small.whole) in
    let whole : c.in_parts.result ≡ pos times *ℤ m.whole = c.in_parts.ensures.value
    ∙ ap (λ (z : ℤ). z *ℤ to_z w64 (of_z w64 m.whole)) first ∙ ap (λ (z : ℤ). pos times *ℤ z) second in
    let fraction : c.from.result * m.part / m.of ≡ times * m.part / m.of = ap (λ (n : ℕ). n * m.part / m.of)
    c.from.ensures in
    let exact = floor_of_mixed times m small.some in
    omega (
      arith,
      ints,
      whole,
      fraction,
      exact,
      floor_fraction times m small.some small.share,
      times_whole times
          m.whole small.whole,
    )
