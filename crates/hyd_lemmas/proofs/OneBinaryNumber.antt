-- A binary number has one mantissa and one exponent.
use Rattle.std.proofs.Common.{◌≡◌, ℕ, suc, ◌+◌, ◌*◌, ◌^◌, ◌<◌, ◌≤◌, lit<, arith, mul-le-mul_right}
use Rattle.std.proofs.Common.{mul-lt-mul_of_pos_right, pow_pos, ℤ, pos, negsuc, ap, sym, ◌∙◌, mul_assoc, pow-add, inl}
use Rattle.std.proofs.Common.{inr}
use Rattle.std.proofs.Math.Nat.{pow-le-pow_right, two-pow-succ, eq_of_mul-eq-mul_right}
use borrow.Author.Differences.{up, down}
use Rattle.hyd_num.specs.declared.binary.Scaled.{Scaled}
use Rattle.hyd_num.specs.BinaryNumbers.{numerator, denominator, as_fraction}
use Rattle.std.proofs.lemmas.Bool.{cases_lt}
use Rattle.hyd_num.specs.Fraction.{AtMost}
use Rattle.hyd_spec.proofs.EqualNumbers.{Scaled-equal}

-- where a mantissa of at least 2^62 has the greater exponent, the other number is less
pub no-less : (m n a b : ℕ) → 2 ^ 62 ≤ n → m < 2 ^ 63 → m * 2 ^ a ≡ n * 2 ^ b → a < b → ⊥
no-less m n a b normal short same less =
    let some : 0 < 2 ^ a = pow_pos a in
    let over : m * 2 ^ a < 2 ^ 63 * 2 ^ a = mul-lt-mul_of_pos_right short some in
    let under : 2 ^ 62 * 2 ^ b ≤ n * 2 ^ b = mul-le-mul_right (2 ^ b) normal in
    let twice : 2 ^ suc a ≤ 2 ^ b = pow-le-pow_right (lit< tt) less in
    let double : 2 ^ suc a ≡ 2 ^ a + 2 ^ a = two-pow-succ a in
    omega (arith, over, under, twice, double, same)

pub same-exponent : (y z : ℤ) → up y + down z ≡ up z + down y → y ≡ z
same-exponent (pos m) (pos n) e = ap pos (omega (arith, e))
same-exponent (pos m) (negsuc n) e = absurd (omega (arith, e))
same-exponent (negsuc m) (pos n) e = absurd (omega (arith, e))
same-exponent (negsuc m) (negsuc n) e = ap negsuc (omega (arith, e))

-- the exponents, each on the side where it isn't negative
abbrev pub shift : Scaled → Scaled → ℕ
shift s t = up s.exp + down t.exp

pub crossed : (s t : Scaled) → numerator s * denominator t ≡ s.mant * 2 ^ shift s t
crossed s t =
    let p : 2 ^ (up s.exp + down t.exp) ≡ 2 ^ up s.exp * 2 ^ down t.exp = pow-add 2 (up s.exp) (down t.exp) in
    mul_assoc s.mant (2 ^ up s.exp) (2 ^ down t.exp) ∙ ap (λ (n : ℕ). s.mant * n) (sym p)

pub one-scaled : (s t : Scaled) → AtMost (as_fraction s) (as_fraction t) → AtMost (as_fraction t) (as_fraction s) → s
    ≡ t
one-scaled s t le ge = Scaled-equal s t mantissa (same-exponent s.exp t.exp shifts)
  where
    value : s.mant * 2 ^ shift s t ≡ t.mant * 2 ^ shift t s
    value = let a = crossed s t in let b = crossed t s in let l = le.crossed in let g = ge.crossed in omega
        (arith, a, b, l, g)

    shifts : shift s t ≡ shift t s
    shifts = elim (cases_lt (shift s t) (shift t s)) [
      | inl less ↦ absurd (no-less s.mant t.mant (shift s t) (shift t s) t.normal s.short value less)
      | inr more ↦ elim (cases_lt (shift t s) (shift s t)) [
        | inl less ↦ absurd (no-less t.mant s.mant (shift t s) (shift s t) s.normal t.short (sym value) less)
        | inr even ↦ omega (arith, more, even)
      ]
    ]

    mantissa : s.mant ≡ t.mant
    mantissa = eq_of_mul-eq-mul_right (2 ^ shift s t) (pow_pos (shift s t)) s.mant t.mant
        (value ∙ ap (λ (n : ℕ). t.mant * 2 ^ n) (sym shifts))
