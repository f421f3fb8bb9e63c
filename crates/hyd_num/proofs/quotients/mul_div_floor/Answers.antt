use Rattle.std.proofs.Common.{FitsSigned, ◌*ℤ◌, ◌≡◌, to_z-of_z}
use mir.Syntax.{w128}
use Rattle.std.specs.Int.{int_div_euclid}
use Rattle.hyd_num.proofs.Floors.{floor_is, fits_by_size}
use Rattle.hyd_num.proofs.quotients.mul_div_floor.Goals as goal

pub returns : goal.returns
returns c =
    let r : FitsSigned w128 c.div_euclid.result = record { sfits = c.div_euclid.type_inv } in
    let n : FitsSigned w128 (c.args.a *ℤ c.args.b) = fits_by_size (c.args.a *ℤ c.args.b) c.requires.small in
    let a : FitsSigned w128 c.args.a = c.ranges.a in
    let b : FitsSigned w128 c.args.b = c.ranges.b in
    let d : FitsSigned w128 c.args.c = c.ranges.c in
    let e : c.div_euclid.result ≡ int_div_euclid (c.args.a *ℤ c.args.b) c.args.c = simp to_z-of_z at
    c.div_euclid.ensures in
    rw to_z-of_z (floor_is (c.args.a *ℤ c.args.b) c.args.c c.div_euclid.result c.requires.positive e)
