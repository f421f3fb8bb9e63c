use Rattle.std.proofs.Common.{◌≡◌, ℕ, ◌*◌, ◌<◌, ℤ, pos, ◌*ℤ◌, ap, ◌∙◌, arith, to_z, of_z}
use Rattle.std.specs.Int.{div_ceil, w128}
use Rattle.std.proofs.lemmas.Int.{ints}
use Rattle.hyd_stocks_at_scale.proofs.VolumeCurves.{ceiling_of_mixed, ceiling_within}
use Rattle.hyd_stocks_at_scale.proofs.volume_curve.Mixed.ceiling_of.Goals as goal

pub returns-clause-value : goal.returns-clause-value
returns-clause-value c =
    let times = c.args.times in
    let m = c.args.self in
    let some : 0 < m.of = (let p = c.requires.range.proper in omega (arith, p)) in
    let fraction : c.div_ceil-fraction.result ≡ div_ceil (times * m.part) m.of =
    c.div_ceil-fraction.ensures ∙ ap (λ (n : ℕ). div_ceil n m.of) c.part_times.ensures.value in
    let kept : to_z w128 (of_z w128 m.whole) ≡ m.whole = omega (arith, ints, c.requires.range.whole) in
    let whole : c.whole_times.result ≡ pos times *ℤ m.whole =
    c.whole_times.ensures.value ∙ ap (λ (z : ℤ). pos times *ℤ z) kept in
    let exact = ceiling_of_mixed times m some in
    let within = ceiling_within c.part_times.result m.of some in
    omega (
      arith,
      ints,
      whole,
      c.whole_times.ensures.small,
      c.part_times.ensures.small,
      c.div_ceil-fraction.ensures,
      fraction,
      exact,
      within,
    )
