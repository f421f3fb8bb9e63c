use Rattle.std.proofs.Common.{FitsSigned, ◌*ℤ◌, ◌*◌, ◌^◌, ◌≤◌, unsigned_abs, refl, lit<}
use Rattle.std.specs.Int.{w128}
use Rattle.std.proofs.lemmas.Int.{fits_signed_mul, unsigned_abs-mul, to_z-of_z}
use Rattle.std.proofs.Math.Nat.{mul-le-mul}
use Rattle.hyd_laws_at_scale.proofs.straight_lines.product.Goals as goal

pub returns-clause-value : goal.returns-clause-value
returns-clause-value c =
    let product : FitsSigned w128 (c.args.difference *ℤ c.args.flow) =
    fits_signed_mul w128 c.args.difference c.args.flow (3 * 10 ^ 21) (2 * 10 ^ 16) c.requires.difference
    c.requires.flow (lit< tt) in
    rw (
      to_z-of_z w128 c.args.difference c.ranges.difference,
      to_z-of_z w128 c.args.flow c.ranges.flow,
      to_z-of_z w128 (c.args.difference *ℤ c.args.flow) product,
    ) refl

pub returns-clause-small : goal.returns-clause-small
returns-clause-small c =
    let product : FitsSigned w128 (c.args.difference *ℤ c.args.flow) =
    fits_signed_mul w128 c.args.difference c.args.flow (3 * 10 ^ 21) (2 * 10 ^ 16) c.requires.difference
    c.requires.flow (lit< tt) in
    let small : unsigned_abs (c.args.difference *ℤ c.args.flow) ≤ 3 * 10 ^ 21 * (2 * 10 ^ 16) =
    rw (unsigned_abs-mul c.args.difference c.args.flow) (mul-le-mul c.requires.difference c.requires.flow) in
    rw (
      to_z-of_z w128 c.args.difference c.ranges.difference,
      to_z-of_z w128 c.args.flow c.ranges.flow,
      to_z-of_z w128 (c.args.difference *ℤ c.args.flow) product,
    ) small
