use Rattle.std.proofs.Common.{◌≡◌, ℕ, ◌/◌, ◌*◌, ◌<◌, ℤ, pos, ◌*ℤ◌, ap, ◌∙◌, arith, to_z, of_z}
use Rattle.std.specs.Int.{w128}
use Rattle.std.proofs.lemmas.Int.{ints}
use Rattle.hyd_stocks_at_scale.proofs.VolumeCurves.{floor_of_mixed, quotient_within}
use Rattle.hyd_stocks_at_scale.proofs.volume_curve.Mixed.floor_of.Goals as goal

pub returns-clause-value : goal.returns-clause-value
returns-clause-value c =
    let times = c.args.times in
    let m = c.args.self in
    let some : 0 < m.of = (let p = c.requires.range.proper in omega (arith, p)) in
    let fraction : c.part_times.result / m.of ≡ times * m.part / m.of = ap (λ (n : ℕ). n / m.of)
    c.part_times.ensures.value in
    let kept : to_z w128 (of_z w128 m.whole) ≡ m.whole = omega (arith, ints, c.requires.range.whole) in
    let whole : c.whole_times.result ≡ pos times *ℤ m.whole =
    c.whole_times.ensures.value ∙ ap (λ (z : ℤ). pos times *ℤ z) kept in
    let exact = floor_of_mixed times m some in
    omega (
      arith,
      ints,
      whole,
      c.whole_times.ensures.small,
      c.part_times.ensures.small,
      fraction,
      exact,
      quotient_within c.part_times.result m.of some,
    )
