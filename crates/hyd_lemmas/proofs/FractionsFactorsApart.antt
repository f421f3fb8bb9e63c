-- Fractions that are at most some factors apart, each a grain and one over a grain.
use Rattle.std.proofs.Common.{◌≡◌, ℕ, zero, suc, ◌+◌, ◌*◌, ◌^◌, ◌<◌, ◌≤◌, sym, ap, ◌∙◌, arith, mul-pos, pow-suc, inl}
use Rattle.std.proofs.Common.{inr}
use Rattle.std.proofs.Math.Nat.{mul-le-mul_right, mul-le-mul_left, le_of_mul-le-mul_right, pow-le-pow_left}
use Rattle.std.proofs.Math.Nat.{pow-lt-pow_left, pow-zero}
use Rattle.std.proofs.lemmas.Nat.{mul-pow, pow-add, mul-le}
use Rattle.std.proofs.lemmas.Bool.{cases_lt}
use Rattle.hyd_num.specs.declared.pairs.Pair.{Pair}
use Rattle.hyd_num.specs.Fraction.{Fraction, power, AtMost}
use Rattle.hyd_num.specs.BinaryNumbers.{as_fraction}
use Rattle.hyd_lemmas.proofs.RoundingErrors.{grain, grain_above}
use Rattle.hyd_lemmas.proofs.PairWidths.{IsNear, above, high, low}

-- x is at most n factors above y
pub record IsWithin (n : ℕ) (x y : Fraction) : Type 0 where
  pub crossed : x.num * y.den * grain ^ n ≤ y.num * x.den * above ^ n

pub within-none : (x y : Fraction) → AtMost x y → IsWithin 0 x y
within-none x y le = record { crossed = rw (pow-zero grain, pow-zero above) (omega (arith, le.crossed)) }

pub within-along : (x y z : Fraction) (n m : ℕ) → 0 < y.den → IsWithin n x y → IsWithin m y z → IsWithin (n + m) x z
within-along x y z n m some p q =
    record {
      crossed =
          let a : x.num * y.den * grain ^ n * (z.den * grain ^ m) ≤ y.num * x.den * above ^ n * (z.den * grain ^ m) =
          mul-le-mul_right (z.den * grain ^ m) p.crossed in
          let b : y.num * z.den * grain ^ m * (x.den * above ^ n) ≤ z.num * y.den * above ^ m * (x.den * above ^ n) =
          mul-le-mul_right (x.den * above ^ n) q.crossed in
          let all : x.num * z.den * (grain ^ n * grain ^ m) * y.den ≤ z.num * x.den * (above ^ n * above ^ m)
          * y.den = omega (arith, a, b) in
          rw (pow-add grain n m, pow-add above n m) (le_of_mul-le-mul_right all some);
    }

pub within-wider : (x y : Fraction) (n m : ℕ) → IsWithin n x y → IsWithin (n + m) x y
within-wider x y n m p =
    record {
      crossed =
          let a : x.num * y.den * grain ^ n * grain ^ m ≤ y.num * x.den * above ^ n * grain ^ m = mul-le-mul_right
          (grain ^ m) p.crossed in
          let b : y.num * x.den * above ^ n * grain ^ m ≤ y.num * x.den * above ^ n * above ^ m = mul-le-mul_left
          (y.num * x.den * above ^ n) (pow-le-pow_left (omega arith) m) in
          rw (pow-add grain n m, pow-add above n m) (omega (arith, a, b));
    }

pow_times : (g n k : ℕ) → (g ^ n) ^ k ≡ g ^ (n * k)
pow_times g n zero = pow-zero (g ^ n) ∙ sym (pow-zero g) ∙ ap (λ i. g ^ i) (omega arith)
pow_times g n (suc k) =
    pow-suc (g ^ n) k ∙ ap (λ x. x * g ^ n) (pow_times g n k) ∙ sym (pow-add g (n * k) n)
    ∙ ap (λ i. g ^ i) (omega arith)

-- the powers of a product of three
three_pow : (a b c k : ℕ) → (a * b * c) ^ k ≡ a ^ k * b ^ k * c ^ k
three_pow a b c k = mul-pow (a * b) c k ∙ ap (λ x. x * c ^ k) (mul-pow a b k)

power_is : (a b g n k : ℕ) → (a * b * g ^ n) ^ k ≡ a ^ k * b ^ k * g ^ (n * k)
power_is a b g n k = three_pow a b (g ^ n) k ∙ ap (λ x. a ^ k * b ^ k * x) (pow_times g n k)

pub within-power : (x y : Fraction) (n k : ℕ) → IsWithin n x y → IsWithin (n * k) (power x k) (power y k)
within-power x y n k p =
    record {
      crossed = rw (← power_is x.num y.den grain n k, ← power_is y.num x.den above n k)
          (pow-le-pow_left p.crossed k);
    }

least_power : (a b k : ℕ) → 0 < k → a ^ k ≤ b ^ k → a ≤ b
least_power a b k some le = elim (cases_lt b a) [
  | inl l ↦ (let more : b ^ k < a ^ k = pow-lt-pow_left l (λ z. absurd (omega (arith, z, some))) in
      absurd (omega (arith, more, le)))
  | inr g ↦ g
]

pub within-root : (x y : Fraction) (n k : ℕ) → 0 < k → IsWithin (n * k) (power x k) (power y k) → IsWithin n x y
within-root x y n k some p =
    record {
      crossed = least_power _ _ k some (rw (power_is x.num y.den grain n k, power_is y.num x.den above n k)
          p.crossed);
    }

-- the two ends of a pair
near_within : (h l g u a b : ℕ) → 0 < g → g ≤ u → h * (u * u * a) ≤ l * (g * g * b) → h * a ≤ l * b
near_within h l g u a b some less near =
    let p : h * a * (g * g) ≤ h * a * (u * u) = mul-le-mul_left (h * a) (mul-le g g u u less less) in
    le_of_mul-le-mul_right (omega (arith, p, near)) (mul-pos some some)

pub ends-within : (w : ℕ) (x : Pair) → IsNear w x → IsWithin w (as_fraction x.hi) (as_fraction x.lo)
ends-within w x near = record {
  crossed = near_within (high x) (low x) grain above (grain ^ w) (above ^ w) grain_above
      (omega arith) near.within;
}

pub near-within : (w : ℕ) (x : Pair) → IsWithin w (as_fraction x.hi) (as_fraction x.lo) → IsNear (w + 2) x
near-within w x ends =
    record {
      within = rw (pow-add grain w 2, pow-add above w 2, two grain, two above)
          (omega (arith, mul-le-mul_right (grain * grain * (above * above)) ends.crossed));
    }
  where
    two : (x : ℕ) → x ^ 2 ≡ x * x
    two x = pow-suc x 1 ∙ ap (λ y. y * x) (pow-suc x 0 ∙ ap (λ y. y * x) (pow-zero x) ∙ omega arith)
