-- Numbers cut to 63 significant digits: a cut is the greatest such number at most the exact one, so it rises, and it is
-- near.
use Rattle.std.proofs.Common.{◌≡◌, ℕ, ◌+◌, ◌-◌, ◌*◌, ◌/◌, ◌^◌, ◌<◌, ◌≤◌, inl, inr, ap, arith, mul-le-mul}
use Rattle.std.proofs.Common.{mul-le-mul_right, lt_of_le_of_lt, lt_of_mul-lt-mul_right, le_trans}
use Rattle.std.proofs.Math.Nat.{div-mul-le_self, lt-div-mul-add, le-div_iff_mul-le, div-lt_iff_lt-mul}
use Rattle.std.proofs.lemmas.Nat.{pow_pos, pow-add}
use Rattle.std.proofs.lemmas.Bool.{cases_order, cond_both, leb-true, leb-false}
use Rattle.hyd_num.proofs.RoundingLemmas.{doubled}
use Rattle.hyd_spec_power_laws.specs.declared.cut_numbers.CutNumber.{CutNumber}
use Rattle.hyd_spec_power_laws.specs.CutPowers.{value, IsNormal, cut_product}

-- c and the number with the next mantissa enclose p
pub record IsCut (p : ℕ) (c : CutNumber) : Type 0 where
  pub normal : IsNormal c
  pub at_most : value c ≤ p
  pub below : p < (c.mant + 1) * 2 ^ c.exp

pub cut_by : (k e p : ℕ) → 2 ^ 62 * 2 ^ k ≤ p → p < 2 ^ 63 * 2 ^ k
    → IsCut (p * 2 ^ e) (record { mant = p / 2 ^ k; exp = e + k })
cut_by k e p least most =
    let t : 2 ^ (e + k) ≡ 2 ^ e * 2 ^ k = pow-add 2 e k in record {
      normal = record {
        least = (le-div_iff_mul-le {x = 2 ^ 62} {y = p} (pow_pos k)).1 least;
        short = (div-lt_iff_lt-mul {x = p} {y = 2 ^ 63} (pow_pos k)).1 most;
      };
      at_most =
          let l : p / 2 ^ k * 2 ^ k * 2 ^ e ≤ p * 2 ^ e = mul-le-mul_right (2 ^ e) (div-mul-le_self p (2 ^ k)) in
          omega (arith, l, ap (λ x. p / 2 ^ k * x) t);
      below =
          let l : p < p / 2 ^ k * 2 ^ k + 2 ^ k = lt-div-mul-add {a = p} (pow_pos k) in
          let m : (p + 1) * 2 ^ e ≤ (p / 2 ^ k * 2 ^ k + 2 ^ k) * 2 ^ e = mul-le-mul_right (2 ^ e) (omega (arith, l)) in
          omega (arith, m, pow_pos e, ap (λ x. (p / 2 ^ k + 1) * x) t);
    }

pub mantissas_least : (a b : CutNumber) → IsNormal a → IsNormal b → 2 ^ 124 ≤ a.mant * b.mant
mantissas_least a b x y = let l : 2 ^ 62 * 2 ^ 62 ≤ a.mant * b.mant = mul-le-mul x.least y.least in omega (arith, l)

pub mantissas_most : (a b : CutNumber) → IsNormal a → IsNormal b → a.mant * b.mant < 2 ^ 126
mantissas_most a b x y =
    let p : a.mant ≤ 2 ^ 63 - 1 = omega (arith, x.short) in
    let q : b.mant ≤ 2 ^ 63 - 1 = omega (arith, y.short) in
    let l : a.mant * b.mant ≤ (2 ^ 63 - 1) * (2 ^ 63 - 1) = mul-le-mul p q in
    omega (arith, l)

values : (a b : CutNumber) → value a * value b ≡ a.mant * b.mant * 2 ^ (a.exp + b.exp)
values a b = let t : 2 ^ (a.exp + b.exp) ≡ 2 ^ a.exp * 2 ^ b.exp = pow-add 2 a.exp b.exp in
    omega (arith, ap (λ x. a.mant * b.mant * x) t)

-- the cut product is a cut of the product
pub product-cut : (a b : CutNumber) → IsNormal a → IsNormal b → IsCut (value a * value b) (cut_product a b)
product-cut a b x y = rw (values a b) (cond_both _ _ _
    (λ (c : CutNumber). IsCut (a.mant * b.mant * 2 ^ (a.exp + b.exp)) c)
    (λ yes. cut_by 63 (a.exp + b.exp) (a.mant * b.mant) (leb-true _ _ yes) (mantissas_most a b x y))
    (λ no. cut_by 62 (a.exp + b.exp) (a.mant * b.mant) (mantissas_least a b x y) (leb-false _ _ no)))

-- what is below the next number is at most this one
below_next : (m n i j : ℕ) → 2 ^ 62 ≤ m → m < 2 ^ 63 → 2 ^ 62 ≤ n → n < 2 ^ 63 → n * 2 ^ i < (m + 1) * 2 ^ j
    → n * 2 ^ i ≤ m * 2 ^ j
below_next m n i j low short least high h = elim (cases_order i j) [
  | inl e ↦ (let k : n * 2 ^ j < (m + 1) * 2 ^ j = rw e at h in
      let l : n < m + 1 = lt_of_mul-lt-mul_right (2 ^ j) k in
      rw e (mul-le-mul_right (2 ^ j) (omega (arith, l))))
  | inr o ↦ elim o [
    | inl l ↦
        let d : 2 * 2 ^ i ≤ 2 ^ j = doubled i j l in
        let a : n * 2 ^ i ≤ 2 ^ 63 * 2 ^ i = mul-le-mul_right (2 ^ i) (omega (arith, high)) in
        let b : 2 ^ 62 * 2 ^ j ≤ m * 2 ^ j = mul-le-mul_right (2 ^ j) low in
        omega (arith, a, b, d)
    | inr g ↦
        let d : 2 * 2 ^ j ≤ 2 ^ i = doubled j i g in
        let a : 2 ^ 62 * 2 ^ i ≤ n * 2 ^ i = mul-le-mul_right (2 ^ i) least in
        let b : (m + 1) * 2 ^ j ≤ 2 ^ 63 * 2 ^ j = mul-le-mul_right (2 ^ j) (omega (arith, short)) in
        absurd (omega (arith, a, b, d, h))
  ]
]

pub cut-greatest : (p : ℕ) (c t : CutNumber) → IsCut p c → IsNormal t → value t ≤ p → value t ≤ value c
cut-greatest p c t cut normal le =
    below_next c.mant t.mant t.exp c.exp cut.normal.least cut.normal.short normal.least normal.short
    (lt_of_le_of_lt le cut.below)

-- a cut rises with what is cut
pub cut-rises : (p q : ℕ) (c d : CutNumber) → IsCut p c → IsCut q d → p ≤ q → value c ≤ value d
cut-rises p q c d a b le = cut-greatest q d c b a.normal (le_trans a.at_most le)

pub product-rises : (a b c d : CutNumber) → IsNormal a → IsNormal b → IsNormal c → IsNormal d → value a ≤ value c
    → value b ≤ value d → value (cut_product a b) ≤ value (cut_product c d)
product-rises a b c d x y z w g h =
    cut-rises (value a * value b) (value c * value d) (cut_product a b) (cut_product c d) (product-cut a b x y)
    (product-cut c d z w) (mul-le-mul g h)

-- it loses at most the 2^62nd part of itself
pub cut-near : (p : ℕ) (c : CutNumber) → IsCut p c → p * 2 ^ 62 ≤ value c * (2 ^ 62 + 1)
cut-near p c cut =
    let l : p * 2 ^ 62 ≤ (c.mant + 1) * 2 ^ c.exp * 2 ^ 62 = mul-le-mul_right (2 ^ 62) (omega (arith, cut.below)) in
    let m : 2 ^ 62 * 2 ^ c.exp ≤ c.mant * 2 ^ c.exp = mul-le-mul_right (2 ^ c.exp) cut.normal.least in
    omega (arith, l, m)
