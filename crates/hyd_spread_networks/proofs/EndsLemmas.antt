-- The ends of what rows leave of a number.
use Rattle.std.proofs.Common.{◌≡◌, ℕ, zero, suc, ◌<◌, ◌≤◌, ◌^◌, ℤ, pos, negsuc, neg_ℤ, ◌*ℤ◌, ◌≤ℤ◌, List, [], ◌∷◌}
use Rattle.std.proofs.Common.{length, map, unsigned_abs, slice_index_or, refl, sym, ap, arith}
use Rattle.std.proofs.lemmas.Int.{ints, unsigned_abs-mul}
use Rattle.std.proofs.Math.Nat.{mul-le-mul}
use Rattle.hyd_num.specs.Rational.{floor, ceiling}
use Rattle.hyd_num.specs.QuotientsAndRoots.{IsFloor, IsCeiling}
use Rattle.hyd_units.proofs.FloorsAndCeilings.{IsFloor-floor, IsCeiling-ceiling}
use Rattle.hyd_spec_spread.specs.IntervalsOfData.{times_factor}

-- ---- rows

pub row_at : {X Y : Type 0} (f : X → Y) (xs : List X) (k : ℕ) (x : X) (e : Y) → k < length xs
    → x ≡ slice_index_or xs k x → f x ≡ slice_index_or (map f xs) k e
row_at f [] k x e h at = absurd (omega (arith, h))
row_at f (y ∷ xs) zero x e h at = ap f at
row_at f (y ∷ xs) (suc k) x e h at = row_at f xs k x e (omega (arith, h)) at

pub no_row : {X Y : Type 0} (f : X → Y) (xs : List X) (k : ℕ) (e : Y) → length xs ≤ k
    → e ≡ slice_index_or (map f xs) k e
no_row f [] k e h = refl
no_row f (y ∷ xs) zero e h = absurd (omega (arith, h))
no_row f (y ∷ xs) (suc k) e h = no_row f xs k e (omega (arith, h))

-- ---- products

pub whole : (z : ℤ) → pos 0 ≤ℤ z → pos (unsigned_abs z) ≡ z
whole (pos n) le = refl
whole (negsuc n) le = absurd (omega (arith, ints, le))

pub down_is : (factor number f n r : ℤ) → f ≡ factor → n ≡ number → pos 0 ≤ℤ factor
    → IsFloor (f *ℤ n) (pos (10 ^ 9)) r → r ≡ floor (times_factor (unsigned_abs factor) number)
down_is factor number f n r ef en le is =
    IsFloor-floor (times_factor (unsigned_abs factor) number) r (omega arith)
    (rw (whole factor le, sym ef, sym en) is)

pub up_is : (factor number f n r : ℤ) → f ≡ factor → n ≡ number → pos 0 ≤ℤ factor
    → IsCeiling (f *ℤ n) (pos (10 ^ 9)) r → r ≡ ceiling (times_factor (unsigned_abs factor) number)
up_is factor number f n r ef en le is =
    IsCeiling-ceiling (times_factor (unsigned_abs factor) number) r (omega arith)
    (rw (whole factor le, sym ef, sym en) is)

product_small : (factor number : ℤ) → unsigned_abs factor ≤ 10 ^ 15 → unsigned_abs number ≤ 10 ^ 15
    → unsigned_abs (factor *ℤ number) ≤ 10 ^ 30
product_small factor number few small =
    let e = unsigned_abs-mul factor number in
    let l = mul-le-mul few small in
    omega (arith, e, l)

pub down_small : (factor number f n r : ℤ) → f ≡ factor → n ≡ number → unsigned_abs factor ≤ 10 ^ 15
    → unsigned_abs number ≤ 10 ^ 15 → IsFloor (f *ℤ n) (pos (10 ^ 9)) r → unsigned_abs r ≤ 10 ^ 21
down_small factor number f n r ef en few small is =
    let product = product_small f n (rw ef few) (rw en small) in
    let most = is.at_most in
    let least = is.greatest (neg_ℤ (pos (10 ^ 21))) (omega (arith, ints, product)) in
    omega (arith, ints, product, most, least)

pub up_small : (factor number f n r : ℤ) → f ≡ factor → n ≡ number → unsigned_abs factor ≤ 10 ^ 15
    → unsigned_abs number ≤ 10 ^ 15 → IsCeiling (f *ℤ n) (pos (10 ^ 9)) r → unsigned_abs r ≤ 10 ^ 21
up_small factor number f n r ef en few small is =
    let product = product_small f n (rw ef few) (rw en small) in
    let least = is.at_least in
    let most = is.least (pos (10 ^ 21)) (omega (arith, ints, product)) in
    omega (arith, ints, product, most, least)
