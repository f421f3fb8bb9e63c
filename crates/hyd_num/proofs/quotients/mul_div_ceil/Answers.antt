use Rattle.std.proofs.Common.{pos, neg_ℤ, FitsSigned, ◌*ℤ◌, ◌-ℤ◌, ◌≡◌, refl, arith, to_z, of_z, to_z-of_z}
use Rattle.hyd_num.specs.QuotientsAndRoots.{IsFloor}
use mir.Syntax.{w128}
use Rattle.std.specs.Int.{int_div_euclid}
use Rattle.std.proofs.lemmas.Int.{ints}
use Rattle.hyd_num.proofs.Floors.{floor_is, ceiling_is, fits_by_size, fits_negated, fits_back}
use Rattle.hyd_num.proofs.quotients.mul_div_ceil.Goals as goal

pub returns : goal.returns
returns c =
    let q = c.div_euclid.result in
    let r : FitsSigned w128 c.div_euclid.result = record { sfits = c.div_euclid.type_inv } in
    let n : FitsSigned w128 (c.args.a *ℤ c.args.b) = fits_by_size (c.args.a *ℤ c.args.b) c.requires.small in
    let a : FitsSigned w128 c.args.a = c.ranges.a in
    let b : FitsSigned w128 c.args.b = c.ranges.b in
    let d : FitsSigned w128 c.args.c = c.ranges.c in
    let m : FitsSigned w128 (pos 0 -ℤ (c.args.a *ℤ c.args.b)) = fits_negated (c.args.a *ℤ c.args.b)
    (pos 0 -ℤ (c.args.a *ℤ c.args.b)) c.requires.small refl in
    let e : q ≡ int_div_euclid (pos 0 -ℤ (c.args.a *ℤ c.args.b)) c.args.c = simp to_z-of_z at c.div_euclid.ensures in
    let f : IsFloor (pos 0 -ℤ (c.args.a *ℤ c.args.b)) c.args.c c.div_euclid.result =
    floor_is (pos 0 -ℤ (c.args.a *ℤ c.args.b)) c.args.c c.div_euclid.result c.requires.positive e in
    let opposite : FitsSigned w128 (pos 0 -ℤ c.div_euclid.result) =
    fits_back (pos 0 -ℤ (c.args.a *ℤ c.args.b)) c.args.c c.div_euclid.result c.requires.positive (omega (arith, ints))
    f r in
    let back : to_z w128 (of_z w128 (pos 0 -ℤ to_z w128 (of_z w128 c.div_euclid.result)))
    ≡ neg_ℤ c.div_euclid.result = omega (arith, ints) in
    ceiling_is (c.args.a *ℤ c.args.b) (pos 0 -ℤ (c.args.a *ℤ c.args.b)) c.args.c c.div_euclid.result
    (to_z w128 (of_z w128 (pos 0 -ℤ to_z w128 (of_z w128 c.div_euclid.result)))) c.requires.positive
    (omega (arith, ints)) back f
