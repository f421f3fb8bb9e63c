use Rattle.std.proofs.Common.{FitsSigned, ◌*ℤ◌, ◌*◌, ◌^◌, ◌≤◌, unsigned_abs, refl, lit<}
use Rattle.std.specs.Int.{w128}
use Rattle.std.proofs.lemmas.Int.{fits_signed_mul, unsigned_abs-mul, to_z-of_z}
use Rattle.std.proofs.Math.Nat.{mul-le-mul}
use Rattle.hyd_num.proofs.products.whole_product.Goals as goal

pub returns-clause-value : goal.returns-clause-value
returns-clause-value c =
    let product : FitsSigned w128 (c.args.a *ℤ c.args.b) = fits_signed_mul w128 c.args.a c.args.b (4 * 10 ^ 18)
    (4 * 10 ^ 18) c.requires.a c.requires.b (lit< tt) in
    rw (
      to_z-of_z w128 c.args.a c.ranges.a,
      to_z-of_z w128 c.args.b c.ranges.b,
      to_z-of_z w128 (c.args.a *ℤ c.args.b) product,
    ) refl

pub returns-clause-small : goal.returns-clause-small
returns-clause-small c =
    let product : FitsSigned w128 (c.args.a *ℤ c.args.b) = fits_signed_mul w128 c.args.a c.args.b (4 * 10 ^ 18)
    (4 * 10 ^ 18) c.requires.a c.requires.b (lit< tt) in
    let small : unsigned_abs (c.args.a *ℤ c.args.b) ≤ 4 * 10 ^ 18 * (4 * 10 ^ 18) =
    rw (unsigned_abs-mul c.args.a c.args.b) (mul-le-mul c.requires.a c.requires.b) in
    rw (
      to_z-of_z w128 c.args.a c.ranges.a,
      to_z-of_z w128 c.args.b c.ranges.b,
      to_z-of_z w128 (c.args.a *ℤ c.args.b) product,
    ) small
