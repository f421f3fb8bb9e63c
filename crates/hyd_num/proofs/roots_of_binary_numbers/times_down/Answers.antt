use Rattle.std.proofs.Common.{◌≡◌, ◌+◌, ◌*◌, ◌^◌, ◌<◌, arith, pow_pos}
use Rattle.std.proofs.lemmas.Int.{ints}
use borrow.Author.Differences.{up, down}
use Rattle.hyd_num.specs.BinaryNumbers.{numerator, denominator}
use Rattle.hyd_num.proofs.CapacityRoots.{high_exponent, low_exponent, places_above, places_below, whole_product}
use Rattle.hyd_num.proofs.CapacityRoots.{whole_product_fits}
use Rattle.hyd_num.proofs.roots_of_binary_numbers.times_down.Goals as goal

pub power_of_two-requires : goal.power_of_two-requires
power_of_two-requires c =
    let p : (c.unsigned_abs-places.result ≡ up c.args.c.exp) × (down c.args.c.exp ≡ 0) = places_above c.args.c.exp
    c.unsigned_abs-places.result (omega (arith, ints)) (omega (arith, ints)) in
    omega (arith, high_exponent c.args.c c.requires.greatest, p.0)

pub overflow_mul-result : goal.overflow_mul-result
overflow_mul-result c =
    let p : (c.unsigned_abs-places.result ≡ up c.args.c.exp) × (down c.args.c.exp ≡ 0) = places_above c.args.c.exp
    c.unsigned_abs-places.result (omega (arith, ints)) (omega (arith, ints)) in
    let l : c.from.result * c.from-2.result * c.power_of_two.result < 2 ^ 66 * 3 * 10 ^ 18 + 1 =
    rw (c.from.ensures, c.from-2.ensures, c.power_of_two.ensures)
    (whole_product_fits c.args.c.mant c.args.d (up c.args.c.exp) c.unsigned_abs-places.result (down c.args.c.exp)
    p.0 p.1 c.requires.greatest c.requires.small) in
    record { fits = omega arith }

pub overflow_shr-result : goal.overflow_shr-result
overflow_shr-result c =
    let p : (c.unsigned_abs-places.result ≡ down c.args.c.exp) × (up c.args.c.exp ≡ 0) = places_below c.args.c.exp
    c.unsigned_abs-places.result (omega (arith, ints)) (omega (arith, ints)) in
    omega (arith, low_exponent c.args.c c.requires.least, p.0)

pub returns-then-c-ge0-clause-at_most : goal.returns-then-c-ge0-clause-at_most
returns-then-c-ge0-clause-at_most c =
    let p : (c.unsigned_abs-places.result ≡ up c.args.c.exp) × (down c.args.c.exp ≡ 0) = places_above c.args.c.exp
    c.unsigned_abs-places.result (omega (arith, ints)) (omega (arith, ints)) in
    let e : c.from.result * c.from-2.result * c.power_of_two.result * denominator c.args.c ≡ numerator c.args.c
    * c.args.d =
    rw (c.from.ensures, c.from-2.ensures, c.power_of_two.ensures)
    (whole_product c.args.c.mant c.args.d (up c.args.c.exp) c.unsigned_abs-places.result (down c.args.c.exp) p.0
    p.1) in
    omega (arith, e)

pub returns-then-c-ge0-clause-next_above : goal.returns-then-c-ge0-clause-next_above
returns-then-c-ge0-clause-next_above c =
    let p : (c.unsigned_abs-places.result ≡ up c.args.c.exp) × (down c.args.c.exp ≡ 0) = places_above c.args.c.exp
    c.unsigned_abs-places.result (omega (arith, ints)) (omega (arith, ints)) in
    let e : c.from.result * c.from-2.result * c.power_of_two.result * denominator c.args.c ≡ numerator c.args.c
    * c.args.d =
    rw (c.from.ensures, c.from-2.ensures, c.power_of_two.ensures)
    (whole_product c.args.c.mant c.args.d (up c.args.c.exp) c.unsigned_abs-places.result (down c.args.c.exp) p.0
    p.1) in
    let z : 0 < denominator c.args.c = pow_pos (down c.args.c.exp) in
    omega (arith, e, z)
