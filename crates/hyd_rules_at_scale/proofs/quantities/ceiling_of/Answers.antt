use Rattle.std.proofs.Common.{◌≡◌, ℕ, ◌*◌, ◌<◌, ℤ, pos, ◌*ℤ◌, ap, ◌∙◌, arith, to_z, of_z}
use Rattle.std.specs.Int.{w128, div_ceil}
use Rattle.std.proofs.lemmas.Int.{ints}
use Rattle.std.proofs.Math.Nat.{div-le_self}
use Rattle.hyd_rules_at_scale.proofs.Roundings.{ceiling_with_part}
use Rattle.hyd_rules_at_scale.proofs.quantities.ceiling_of.Goals as goal

pub returns-clause-ceiling : goal.returns-clause-ceiling
returns-clause-ceiling c =
    let count = c.args.count in
    let v = c.args.value in
    let some : 0 < v.of = (let p = c.requires.value.part in omega (arith, p)) in
    let fraction : c.div_ceil-fraction.result ≡ div_ceil (count * v.part) v.of =
    c.div_ceil-fraction.ensures ∙ ap (λ (n : ℕ). div_ceil n v.of) c.part_times.ensures.value in
    let kept : to_z w128 (of_z w128 v.whole) ≡ v.whole = omega (arith, ints, c.requires.value.small) in
    let whole : c.whole_times.result ≡ pos count *ℤ v.whole =
    c.whole_times.ensures.value ∙ ap (λ (z : ℤ). pos count *ℤ z) kept in
    ceiling_with_part count v.of v.part v.whole _ some
    (omega (
      arith,
      ints,
      whole,
      c.whole_times.ensures.small,
      c.part_times.ensures.small,
      fraction,
      c.div_ceil-fraction.ensures,
      div-le_self c.part_times.result v.of,
    ))
