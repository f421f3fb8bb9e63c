-- Whole numbers below 2^128 as cut numbers.
use Rattle.std.proofs.Common.{◌≡◌, ℕ, ◌+◌, ◌-◌, ◌*◌, ◌/◌, ◌^◌, ◌<◌, ◌≤◌, inl, inr, nat_le, ap, sym, ◌∙◌, arith}
use Rattle.std.proofs.Common.{pow-suc, mul-le-mul_right, suc, add-one}
use Rattle.std.proofs.Math.Nat.{pow-zero, div-mul-le_self, lt-div-mul-add, le-div_iff_mul-le, div-lt_iff_lt-mul}
use Rattle.std.proofs.lemmas.Nat.{pow_pos, pow-add}
use Rattle.std.proofs.lemmas.Bool.{cases_eq, cases_lt, leb-true, le-leb}
use Rattle.hyd_num.proofs.RoundingLemmas.{power_below}
use Rattle.hyd_spec_power_laws.specs.CutPowers.{value, places, in_63_digits}
use Rattle.hyd_power_laws.proofs.CutNumbers.{IsCut, cut-rises}
use Rattle.hyd_power_laws.proofs.GreatestAndLeast.{greatest_is}

-- the places of a number lie between powers of two
pub record HasPlaces (n l : ℕ) : Type 0 where
  pub from : 2 ^ l ≤ n
  pub to : n < 2 * 2 ^ l
  pub few : l ≤ 127

pub places_are : (n : ℕ) → 1 ≤ n → n < 2 ^ 128 → HasPlaces n (places n)
places_are n some short =
    let g = greatest_is (λ l. nat_le (2 ^ l) n) 127 in
    record {
      from = elim (cases_eq (places n) 0) [
        | inl e ↦ rw (e, pow-zero 2) some
        | inr ne ↦ leb-true _ _ (g.passes (omega (arith, ne)))
      ];
      to = elim (cases_lt n (2 * 2 ^ places n)) [
        | inl lt ↦ lt
        | inr ge ↦ elim (cases_eq (places n) 127) [
          | inl e ↦ absurd (omega (arith, ge, short, ap (λ l. 2 ^ l) e))
          | inr ne ↦ absurd (
              let p : 2 ^ (places n + 1) ≤ n = rw (add-one, pow-suc 2 (places n)) (omega (arith, ge)) in
              let l : places n + 1 ≤ places n = g.greatest (places n + 1) (omega (arith, g.within, ne)) (omega arith)
              (le-leb _ _ p) in
              omega (arith, l))
        ]
      ];
      few = g.within;
    }

-- they are the only ones
pub one_places : (n l : ℕ) → 1 ≤ n → 2 ^ l ≤ n → n < 2 * 2 ^ l → n < 2 ^ 128 → l ≡ places n
one_places n l some from to short =
    let p = places_are n some short in
    let s : 2 ^ suc l ≡ 2 ^ l * 2 = pow-suc 2 l in
    let t : 2 ^ suc (places n) ≡ 2 ^ places n * 2 = pow-suc 2 (places n) in
    let a : l < suc (places n) = power_below l (suc (places n)) (omega (arith, from, p.to, t)) in
    let b : places n < suc l = power_below (places n) (suc l) (omega (arith, p.from, to, s)) in
    omega (arith, a, b)

-- the number times 2^62 is cut
pub whole-cut : (n : ℕ) → 1 ≤ n → n < 2 ^ 128 → IsCut (n * 2 ^ 62) (in_63_digits n)
whole-cut n some short =
    let p = places_are n some short in
    let above : 0 < 2 ^ places n = pow_pos (places n) in
    record {
      normal = record {
        least = (le-div_iff_mul-le {x = 2 ^ 62} {y = n * 2 ^ 62} above).1 (omega (arith, p.from));
        short = (div-lt_iff_lt-mul {x = n * 2 ^ 62} {y = 2 ^ 63} above).1 (omega (arith, p.to));
      };
      at_most = div-mul-le_self (n * 2 ^ 62) (2 ^ places n);
      below =
          let l : n * 2 ^ 62 < n * 2 ^ 62 / 2 ^ places n * 2 ^ places n + 2 ^ places n = lt-div-mul-add
          {a = n * 2 ^ 62} above in
          omega (arith, l);
    }

pub whole-rises : (m n : ℕ) → 1 ≤ m → m ≤ n → n < 2 ^ 128 → value (in_63_digits m) ≤ value (in_63_digits n)
whole-rises m n some le short =
    let l : m * 2 ^ 62 ≤ n * 2 ^ 62 = mul-le-mul_right (2 ^ 62) le in
    cut-rises (m * 2 ^ 62) (n * 2 ^ 62) (in_63_digits m) (in_63_digits n)
    (whole-cut m some (omega (arith, le, short))) (whole-cut n (omega (arith, some, le)) short) l

-- ---- its first 63 digits, by a factor or a quotient

pub quotient_at : (n d q : ℕ) → 0 < d → q * d ≤ n → n < (q + 1) * d → q ≡ n / d
quotient_at n d q above low high =
    let a : q ≤ n / d = (le-div_iff_mul-le {x = q} {y = n} above).1 low in
    let b : n / d < q + 1 = (div-lt_iff_lt-mul {x = n} {y = q + 1} above).1 high in
    omega (arith, a, b)

pub digits-shifted_up : (n l : ℕ) → l ≤ 62 → n * 2 ^ (62 - l) ≡ n * 2 ^ 62 / 2 ^ l
digits-shifted_up n l short =
    let e : 62 - l + l ≡ 62 = omega (arith, short) in
    let f : 2 ^ 62 ≡ 2 ^ (62 - l) * 2 ^ l = ap (λ x. 2 ^ x) (sym e) ∙ pow-add 2 (62 - l) l in
    quotient_at (n * 2 ^ 62) (2 ^ l) (n * 2 ^ (62 - l)) (pow_pos l) (omega (arith, ap (λ x. n * x) f))
    (omega (arith, ap (λ x. n * x) f, pow_pos l))

pub digits-shifted_down : (n l : ℕ) → 62 ≤ l → n / 2 ^ (l - 62) ≡ n * 2 ^ 62 / 2 ^ l
digits-shifted_down n l long =
    let e : l - 62 + 62 ≡ l = omega (arith, long) in
    let f : 2 ^ l ≡ 2 ^ (l - 62) * 2 ^ 62 = ap (λ x. 2 ^ x) (sym e) ∙ pow-add 2 (l - 62) 62 in
    let above : 0 < 2 ^ (l - 62) = pow_pos (l - 62) in
    let a : n / 2 ^ (l - 62) * 2 ^ (l - 62) ≤ n = div-mul-le_self n (2 ^ (l - 62)) in
    let b : n < n / 2 ^ (l - 62) * 2 ^ (l - 62) + 2 ^ (l - 62) = lt-div-mul-add {a = n} above in
    quotient_at (n * 2 ^ 62) (2 ^ l) (n / 2 ^ (l - 62)) (pow_pos l)
    (omega (arith, a, ap (λ x. n / 2 ^ (l - 62) * x) f)) (omega (arith, b, ap (λ x. (n / 2 ^ (l - 62) + 1) * x) f))

-- the first digits are 63
pub digits_bounds : (n l : ℕ) → 2 ^ l ≤ n → n < 2 * 2 ^ l
    → (2 ^ 62 ≤ n * 2 ^ 62 / 2 ^ l) × (n * 2 ^ 62 / 2 ^ l < 2 ^ 63)
digits_bounds n l from to = (
  (le-div_iff_mul-le {x = 2 ^ 62} {y = n * 2 ^ 62} (pow_pos l)).1 (omega (arith, from)),
  (div-lt_iff_lt-mul {x = n * 2 ^ 62} {y = 2 ^ 63} (pow_pos l)).1 (omega (arith, to)),
)

pub few_places : (n l : ℕ) → 2 ^ l ≤ n → n < 2 ^ 128 → l < 128
few_places n l from short = power_below l 128 (omega (arith, from, short))
