use Rattle.std.proofs.Common.{FitsSigned, arith}
use Rattle.std.specs.Int.{w128}
use Rattle.std.proofs.lemmas.Int.{to_z-of_z, ints, fits_signed_from_abs}
use Rattle.hyd_units.proofs.conversion.pressure_ticks.Goals as goal

pub invariant_of-result : goal.invariant_of-result
invariant_of-result c =
    let low : FitsSigned w128 c.mul_div_floor-lo.result = record { sfits = c.mul_div_floor-lo.type_inv } in
    let high : FitsSigned w128 c.mul_div_ceil-hi.result = record { sfits = c.mul_div_ceil-hi.type_inv } in
    record { ordered = omega (arith, ints, c.mul_div_floor-lo.ensures.at_most, c.mul_div_ceil-hi.ensures.at_least) }

pub returns-then-us-clause-floor : goal.returns-then-us-clause-floor
returns-then-us-clause-floor c =
    let fits : FitsSigned w128 c.mul_div_floor-lo.result = record { sfits = c.mul_div_floor-lo.type_inv } in
    let number : FitsSigned w128 c.args.v.nano = fits_signed_from_abs w128 c.args.v.nano
    (omega (arith, c.args.v.bounded)) in
    rw (c.if-us.true, to_z-of_z w128 c.mul_div_floor-lo.result fits)
    (rw (to_z-of_z w128 c.args.v.nano number) at c.mul_div_floor-lo.ensures)

pub returns-then-us-clause-ceiling : goal.returns-then-us-clause-ceiling
returns-then-us-clause-ceiling c =
    let fits : FitsSigned w128 c.mul_div_ceil-hi.result = record { sfits = c.mul_div_ceil-hi.type_inv } in
    let number : FitsSigned w128 c.args.v.nano = fits_signed_from_abs w128 c.args.v.nano
    (omega (arith, c.args.v.bounded)) in
    rw (c.if-us.true, to_z-of_z w128 c.mul_div_ceil-hi.result fits)
    (rw (to_z-of_z w128 c.args.v.nano number) at c.mul_div_ceil-hi.ensures)
