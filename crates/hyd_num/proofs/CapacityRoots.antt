-- A capacity times a whole number, rounded to whole numbers, and the roots of it.
use Rattle.std.proofs.Common.{◌≡◌, ℕ, ◌+◌, ◌-◌, ◌*◌, ◌/◌, ◌^◌, ◌<◌, ◌≤◌, ◌⊎◌, inl, inr, ℤ, pos, negsuc, ◌≤ℤ◌, ◌<ℤ◌}
use Rattle.std.proofs.Common.{unsigned_abs, refl, ap, arith, mul-le-mul, mul-le-mul_right, lt_of_mul-lt-mul_right}
use Rattle.std.proofs.Common.{div-mul-le_self}
use Rattle.std.proofs.lemmas.Nat.{pow_pos}
use Rattle.std.proofs.lemmas.Int.{ints}
use Rattle.std.proofs.lemmas.Bool.{cases_lt}
use borrow.Author.Differences.{up, down}
use Rattle.hyd_num.specs.declared.binary.Scaled.{Scaled}
use Rattle.hyd_num.specs.BinaryNumbers.{numerator, denominator}
use Rattle.hyd_num.specs.QuotientsAndRoots.{IsSquareRootDown, IsSquareRootUp}
use Rattle.hyd_num.proofs.RoundingLemmas.{power_below}

-- an integer is its positive part or its negative part
parts : (z : ℤ) → (up z ≡ 0) ⊎ (down z ≡ 0)
parts (pos n) = inr refl
parts (negsuc n) = inl refl

exponent_high : (m u d : ℕ) → 2 ^ 62 ≤ m → d ≡ 0 → m * 2 ^ u < 2 ^ 66 * 2 ^ d → u < 4
exponent_high m u d low z h =
    let a : 2 ^ 62 * 2 ^ u ≤ m * 2 ^ u = mul-le-mul_right (2 ^ u) low in
    power_below u 4 (omega (arith, a, ap (λ x. 2 ^ x) z))

exponent_low : (m u d : ℕ) → m < 2 ^ 63 → u ≡ 0 → 2 ^ d ≤ m * 2 ^ u * 2 ^ 61 → d < 124
exponent_low m u d high z h =
    power_below d 124 (omega (arith, ap (λ x. m * 2 ^ x) z))

pub high_exponent : (c : Scaled) → numerator c < 2 ^ 66 * denominator c → up c.exp ≤ 3
high_exponent c greatest = elim (parts c.exp) [
  | inl z ↦ omega arith
  | inr z ↦ (let l : up c.exp < 4 = exponent_high c.mant (up c.exp) (down c.exp) c.normal z greatest in omega arith)
]

pub low_exponent : (c : Scaled) → denominator c ≤ numerator c * 2 ^ 61 → down c.exp ≤ 123
low_exponent c least = elim (parts c.exp) [
  | inl z ↦ (let l : down c.exp < 124 = exponent_low c.mant (up c.exp) (down c.exp) c.short z least in omega arith)
  | inr z ↦ omega arith
]

-- a whole product
pub whole_product : (m d u k e : ℕ) → k ≡ u → e ≡ 0 → m * d * 2 ^ k * 2 ^ e ≡ m * 2 ^ u * d
whole_product m d u k e same z = rw (same, z) (omega arith)

pub whole_product_fits : (m d u k e : ℕ) → k ≡ u → e ≡ 0 → m * 2 ^ u < 2 ^ 66 * 2 ^ e → d ≤ 3 * 10 ^ 18
    → m * d * 2 ^ k < 2 ^ 66 * 3 * 10 ^ 18 + 1
whole_product_fits m d u k e same z greatest small =
    let a : m * 2 ^ u ≤ 2 ^ 66 = omega (arith, ap (λ x. 2 ^ x) z) in
    let b : m * 2 ^ u * d ≤ 2 ^ 66 * (3 * 10 ^ 18) = mul-le-mul a small in
    rw same (omega (arith, b))

-- a product divided by a power of two, rounded down and up
pub shifted_at_most : (m d u k e : ℕ) → k ≡ e → u ≡ 0 → m * d / 2 ^ k * 2 ^ e ≤ m * 2 ^ u * d
shifted_at_most m d u k e same z = rw (← same, z) (omega (arith, div-mul-le_self (m * d) (2 ^ k)))

pub shifted_below : (m d u k e : ℕ) → k ≡ e → u ≡ 0 → m * 2 ^ u * d < (m * d / 2 ^ k + 1) * 2 ^ e
shifted_below m d u k e same z = let p : 0 < 2 ^ k = pow_pos k in rw (← same, z) (omega arith)

pub raised_at_least : (m d u k e : ℕ) → k ≡ e → u ≡ 0 → m * 2 ^ u * d ≤ (m * d + (2 ^ k - 1)) / 2 ^ k * 2 ^ e
raised_at_least m d u k e same z = let p : 0 < 2 ^ k = pow_pos k in rw (← same, z) (omega arith)

pub raised_below : (m d u k e : ℕ) → k ≡ e → u ≡ 0 → (m * d + (2 ^ k - 1)) / 2 ^ k * 2 ^ e < m * 2 ^ u * d + 2 ^ e
raised_below m d u k e same z = let p : 0 < 2 ^ k = pow_pos k in
    rw (← same, z) (omega (arith, div-mul-le_self (m * d + (2 ^ k - 1)) (2 ^ k)))

-- the root of a number that was cut to a whole one
pub root_of_cut : (n q p r : ℕ) → p * q ≤ n → n < (p + 1) * q → r * r ≤ p → p < (r + 1) * (r + 1)
    → IsSquareRootDown n q r
root_of_cut n q p r low high square next = record {
  at_most = let a : r * r * q ≤ p * q = mul-le-mul_right q square in omega arith;
  greatest = λ k h.
      let a : k * k < p + 1 = lt_of_mul-lt-mul_right q (omega arith) in
      elim (cases_lt r k) [
        | inl l ↦ (let b : (r + 1) * (r + 1) ≤ k * k = mul-le-mul (omega arith) (omega arith) in
            absurd (omega arith))
        | inr g ↦ g
      ];
}

pub root_of_raised : (n q p r : ℕ) → n ≤ p * q → p * q < n + q → IsSquareRootUp p 1 r → IsSquareRootUp n q r
root_of_raised n q p r low high root = record {
  at_least = let a : p * q ≤ r * r * q = mul-le-mul_right q (omega (arith, root.at_least)) in omega arith;
  least = λ k h.
      let a : p < k * k + 1 = lt_of_mul-lt-mul_right q (omega arith) in
      root.least k (omega arith);
}

-- the places of an exponent that isn't negative, and of a negative one
pub places_above : (z : ℤ) (k : ℕ) → pos 0 ≤ℤ z → k ≡ unsigned_abs z → (k ≡ up z) × (down z ≡ 0)
places_above (pos n) k h e = (e, refl)
places_above (negsuc n) k h e = absurd (omega (arith, ints))

pub places_below : (z : ℤ) (k : ℕ) → z <ℤ pos 0 → k ≡ unsigned_abs z → (k ≡ down z) × (up z ≡ 0)
places_below (pos n) k h e = absurd (omega (arith, ints))
places_below (negsuc n) k h e = (e, refl)
