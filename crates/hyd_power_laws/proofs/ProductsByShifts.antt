-- A cut product by a quotient of 63 or 64 digits, of which the last one is dropped where there are 64.
use Rattle.std.proofs.Common.{◌≡◌, ℕ, ◌+◌, ◌*◌, ◌/◌, ◌^◌, ◌<◌, ◌≤◌, ap, ap₂, ◌∙◌, arith}
use Rattle.std.proofs.lemmas.Bool.{cond_both, leb-true, leb-false}
use Rattle.hyd_spec_power_laws.specs.declared.cut_numbers.CutNumber.{CutNumber}
use Rattle.hyd_spec_power_laws.specs.CutPowers.{IsNormal, cut_product}
use Rattle.hyd_power_laws.proofs.CutNumbers.{mantissas_most}

pub quotient_short : (a b : CutNumber) → IsNormal a → IsNormal b → a.mant * b.mant / 2 ^ 62 < 2 ^ 64
quotient_short a b x y = let l = mantissas_most a b x y in omega (arith, l)

long_mantissa : (p h l : ℕ) → h ≡ p / 2 ^ 62 → l ≡ h / 2 ^ 63 → 2 ^ 125 ≤ p → p < 2 ^ 126
    → (l ≡ 1) × (h / 2 ≡ p / 2 ^ 63)
long_mantissa p h l e f least most = (omega (arith, e, f, least, most), omega (arith, e))

short_mantissa : (p h l : ℕ) → h ≡ p / 2 ^ 62 → l ≡ h / 2 ^ 63 → p < 2 ^ 125 → (l ≡ 0) × (h / 1 ≡ p / 2 ^ 62)
short_mantissa p h l e f most = (omega (arith, e, f, most), omega (arith, e))

pub by_shift : (a b : CutNumber) (h l : ℕ) → IsNormal a → IsNormal b → h ≡ a.mant * b.mant / 2 ^ 62 → l ≡ h / 2 ^ 63
    → record { mant = h / 2 ^ l; exp = a.exp + b.exp + 62 + l } ≡ cut_product a b
by_shift a b h l x y e f = cond_both _ _ _
    (λ (c : CutNumber). record { mant = h / 2 ^ l; exp = a.exp + b.exp + 62 + l } ≡ c)
    (λ yes.
    let m = long_mantissa (a.mant * b.mant) h l e f (leb-true _ _ yes) (mantissas_most a b x y) in
    ap₂ (λ m e. record { mant = m; exp = e }) (ap (λ k. h / 2 ^ k) m.0 ∙ m.1) (omega (arith, m.0)))
    (λ no.
    let m = short_mantissa (a.mant * b.mant) h l e f (leb-false _ _ no) in
    ap₂ (λ m e. record { mant = m; exp = e }) (ap (λ k. h / 2 ^ k) m.0 ∙ m.1) (omega (arith, m.0)))
