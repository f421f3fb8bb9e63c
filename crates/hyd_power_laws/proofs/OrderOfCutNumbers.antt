-- Cut numbers times powers of two compare by their exponents first, and by their mantissas where those are equal.
use Rattle.std.proofs.Common.{◌≡◌, ℕ, ◌+◌, ◌*◌, ◌^◌, ◌<◌, ◌≤◌, inl, inr, nat_le, ap, sym, ◌∙◌, arith}
use Rattle.std.proofs.Common.{mul-le-mul_right, mul-lt-mul_of_pos_right}
use Rattle.std.specs.Prelude.{nat_lt}
use Rattle.std.proofs.lemmas.Nat.{pow_pos, pow-add}
use Rattle.std.proofs.lemmas.Bool.{cases_lt, le-leb, lt-leb, lt-ltb, le-ltb}
use Rattle.hyd_num.proofs.RoundingLemmas.{doubled}
use Rattle.hyd_spec_power_laws.specs.declared.cut_numbers.CutNumber.{CutNumber}
use Rattle.hyd_spec_power_laws.specs.CutPowers.{value, IsNormal}

shifted : (m e i : ℕ) → m * 2 ^ e * 2 ^ i ≡ m * 2 ^ (e + i)
shifted m e i = let t : 2 ^ (e + i) ≡ 2 ^ e * 2 ^ i = pow-add 2 e i in omega (arith, ap (λ x. m * x) t)

-- the number with the lesser exponent is the lesser one
lesser : (m n u v : ℕ) → m < 2 ^ 63 → 2 ^ 62 ≤ n → u < v → m * 2 ^ u < n * 2 ^ v
lesser m n u v short low lt =
    let d : 2 * 2 ^ u ≤ 2 ^ v = doubled u v lt in
    let a : m * 2 ^ u < 2 ^ 63 * 2 ^ u = mul-lt-mul_of_pos_right short (pow_pos u) in
    let b : 2 ^ 62 * 2 ^ v ≤ n * 2 ^ v = mul-le-mul_right (2 ^ v) low in
    omega (arith, a, b, d)

pub by_mantissas : (a b : CutNumber) (i j : ℕ) → a.exp + i ≡ b.exp + j
    → nat_le a.mant b.mant ≡ nat_le (value a * 2 ^ i) (value b * 2 ^ j)
by_mantissas a b i j e =
    let l : value a * 2 ^ i ≡ a.mant * 2 ^ (a.exp + i) = shifted a.mant a.exp i in
    let r : value b * 2 ^ j ≡ b.mant * 2 ^ (a.exp + i) = shifted b.mant b.exp j ∙ ap (λ k. b.mant * 2 ^ k) (sym e) in
    rw (l, r) (elim (cases_lt b.mant a.mant) [
      | inl lt ↦ lt-leb a.mant b.mant lt
          ∙ sym (lt-leb (a.mant * 2 ^ (a.exp + i)) (b.mant * 2 ^ (a.exp + i))
          (mul-lt-mul_of_pos_right lt (pow_pos (a.exp + i))))
      | inr ge ↦ le-leb a.mant b.mant ge
          ∙ sym (le-leb (a.mant * 2 ^ (a.exp + i)) (b.mant * 2 ^ (a.exp + i)) (mul-le-mul_right (2 ^ (a.exp + i)) ge))
    ])

pub by_exponents : (a b : CutNumber) (i j : ℕ) → IsNormal a → IsNormal b → ¬ (a.exp + i ≡ b.exp + j)
    → nat_lt (a.exp + i) (b.exp + j) ≡ nat_le (value a * 2 ^ i) (value b * 2 ^ j)
by_exponents a b i j x y ne =
    let l : value a * 2 ^ i ≡ a.mant * 2 ^ (a.exp + i) = shifted a.mant a.exp i in
    let r : value b * 2 ^ j ≡ b.mant * 2 ^ (b.exp + j) = shifted b.mant b.exp j in
    rw (l, r) (elim (cases_lt (a.exp + i) (b.exp + j)) [
      | inl lt ↦
          let m : a.mant * 2 ^ (a.exp + i) < b.mant * 2 ^ (b.exp + j) = lesser a.mant b.mant (a.exp + i) (b.exp + j)
          x.short y.least lt in
          lt-ltb (a.exp + i) (b.exp + j) lt
          ∙ sym (le-leb (a.mant * 2 ^ (a.exp + i)) (b.mant * 2 ^ (b.exp + j)) (omega (arith, m)))
      | inr ge ↦
          let gt : b.exp + j < a.exp + i = omega (arith, ge, ne) in
          let m : b.mant * 2 ^ (b.exp + j) < a.mant * 2 ^ (a.exp + i) = lesser b.mant a.mant (b.exp + j) (a.exp + i)
          y.short x.least gt in
          le-ltb (a.exp + i) (b.exp + j) ge ∙ sym (lt-leb (a.mant * 2 ^ (a.exp + i)) (b.mant * 2 ^ (b.exp + j)) m)
    ])
