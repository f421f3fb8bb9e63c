use Rattle.std.proofs.Common.{◌≡◌, ◌+◌, ◌*◌, ◌^◌, ◌/◌, ◌%◌, ◌≤◌, ℤ, pos, ◌+ℤ◌, ◌*ℤ◌, sym, ap, ◌∙◌, arith, to_z}
use Rattle.std.specs.Int.{w128}
use Rattle.std.proofs.Math.Nat.{mul-le-mul_right}
use Rattle.std.proofs.lemmas.Int.{ints}
use Rattle.hyd_stocks_at_scale.proofs.ExactLevels.{fine_level}
use Rattle.hyd_stocks_at_scale.proofs.carried_levels.level_of_fine.Goals as goal

pub returns : goal.returns
returns c =
    let w = c.unsigned_abs-whole.result in
    let of = c.args.exact.of in
    let part = c.args.exact.part in
    let proper = c.requires.exact.proper in
    let whole : pos c.unsigned_abs-whole.result ≡ c.args.exact.whole =
    omega (arith, ints, c.unsigned_abs-whole.ensures, c.requires.whole, c.requires.exact.whole) in
    let small : c.unsigned_abs-whole.result ≤ 2 * 10 ^ 24 = omega (arith, ints, whole, c.requires.exact.whole) in
    let k : to_z w128 (c.unsigned_abs-whole.result / 864) ≡ pos (c.unsigned_abs-whole.result / 864) =
    omega (arith, ints, small) in
    let few : c.unsigned_abs-whole.result % 864 ≤ 863 = omega arith in
    let m = mul-le-mul_right c.args.exact.of few in
    record {
      proper = omega (arith, m, proper);
      of = omega (arith, c.requires.exact.of);
      same = ap (λ (z : ℤ). pos (864 * of) *ℤ ((pos of *ℤ z) +ℤ pos part)) (sym whole) ∙ (fine_level of part w
          ∙ ap (λ (z : ℤ). pos (of * 864) *ℤ ((pos (864 * of) *ℤ z) +ℤ pos (w % 864 * of + part))) (sym k));
    }
