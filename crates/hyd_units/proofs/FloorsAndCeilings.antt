-- The floor and the ceiling of an exact value, from what a call says of its answer.
use Rattle.std.proofs.Common.{◌≡◌, ◌<◌, ℤ, pos, neg_ℤ, ◌<ℤ◌, refl, arith}
use Rattle.std.proofs.lemmas.Int.{ints}
use Rattle.hyd_num.specs.Rational.{Rational, negated, floor, ceiling}
use Rattle.hyd_num.specs.QuotientsAndRoots.{IsFloor, IsCeiling}
use Rattle.hyd_num.proofs.Floors.{floor_is, ceiling_is, one_floor, one_ceiling}

pub IsFloor-floor : (x : Rational) (k : ℤ) → 0 < x.den → IsFloor x.num (pos x.den) k → k ≡ floor x
IsFloor-floor x k above f =
    let positive : pos 0 <ℤ pos x.den = omega (arith, ints) in
    one_floor _ _ _ _ f (floor_is x.num (pos x.den) (floor x) positive refl)

pub IsCeiling-ceiling : (x : Rational) (k : ℤ) → 0 < x.den → IsCeiling x.num (pos x.den) k → k ≡ ceiling x
IsCeiling-ceiling x k above f =
    let positive : pos 0 <ℤ pos x.den = omega (arith, ints) in
    let below : IsFloor (neg_ℤ x.num) (pos x.den) (floor (negated x)) = floor_is (neg_ℤ x.num) (pos x.den)
    (floor (negated x)) positive refl in
    one_ceiling _ _ _ _ f (ceiling_is x.num (neg_ℤ x.num) (pos x.den) (floor (negated x)) (ceiling x) positive
    refl refl below)
