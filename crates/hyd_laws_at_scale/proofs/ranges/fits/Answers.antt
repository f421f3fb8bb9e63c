use Rattle.std.proofs.Common.{pos, ◌+ℤ◌, to_z, of_z, w32, arith, int_le}
use Rattle.std.proofs.lemmas.Int.{ints}
use Rattle.hyd_num.proofs.CapacityRoots.{high_exponent}
use Rattle.hyd_lemmas.proofs.BooleanTests.{le-yes, le-no}
use Rattle.hyd_laws_at_scale.proofs.ScaledRoots.{fits_yes, fits_no}
use Rattle.hyd_laws_at_scale.proofs.ranges.fits.Goals as goal

pub overflow_add-result : goal.overflow_add-result
overflow_add-result c =
    omega (arith, ints, high_exponent c.args.capacity.now.hi c.args.capacity.now.greatest, c.args.scale.small)

pub returns-clause-yes : goal.returns-clause-yes
returns-clause-yes c = fits_yes c.args.capacity.now c.args.scale.power
    (int_le (to_z w32 (of_z w32 (to_z w32 (of_z w32 c.args.capacity.now.hi.exp) +ℤ to_z w32 c.args.scale.power)))
    (pos 3)) (λ e.
    let l = le-yes (to_z w32 (of_z w32 (to_z w32 (of_z w32 c.args.capacity.now.hi.exp) +ℤ to_z w32 c.args.scale.power)))
    (pos 3) e in
    omega (arith, ints, l, high_exponent c.args.capacity.now.hi c.args.capacity.now.greatest, c.args.scale.small))

pub returns-clause-no : goal.returns-clause-no
returns-clause-no c = fits_no c.args.capacity.now c.args.scale.power
    (int_le (to_z w32 (of_z w32 (to_z w32 (of_z w32 c.args.capacity.now.hi.exp) +ℤ to_z w32 c.args.scale.power)))
    (pos 3)) (λ e.
    let l = le-no (to_z w32 (of_z w32 (to_z w32 (of_z w32 c.args.capacity.now.hi.exp) +ℤ to_z w32 c.args.scale.power)))
    (pos 3) e in
    omega (arith, ints, l, high_exponent c.args.capacity.now.hi c.args.capacity.now.greatest, c.args.scale.small))
