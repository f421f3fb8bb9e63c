-- A loss by powers at the scales that S divides: its constant is taken S^852-fold, and of its minor loss the S-th part.
use Rattle.std.proofs.Common.{◌≡◌, ℕ, ◌+◌, ◌-◌, ◌*◌, ◌^◌, ◌≤◌, sym, ap, ap₂, ◌∙◌, arith, mul-le-mul_right}
use Rattle.std.proofs.Common.{pow-suc, refl}
use Rattle.std.proofs.Math.Nat.{mul-sub, pow-zero}
use Rattle.std.proofs.lemmas.Nat.{mul-pow, pow-add}
use Rattle.hyd_num.specs.Fraction.{Fraction, fraction}
use Rattle.hyd_spec_power_laws.specs.PowerLosses.{PowerLossAtMost, PowerLossAtLeast}

-- the constant and the minor loss in S-th parts
abbrev pub constant_in_parts : ℕ → Fraction → Fraction
constant_in_parts S k = fraction (k.num * S ^ 852) k.den

abbrev pub minor_in_parts : ℕ → Fraction → Fraction
minor_in_parts S r = fraction r.num (r.den * S)

two : (a : ℕ) → a ^ 2 ≡ a * a
two a = pow-suc a 1 ∙ ap (λ x. x * a) (pow-suc a 0 ∙ ap (λ x. x * a) (pow-zero a)) ∙ omega arith

-- ---- what is left, and what it is a part of: n, d for the minor loss and p2 for the squared flow

taken-finer : (n d S T p2 y : ℕ) → n * p2 * T ≤ y * (d * S * T ^ 2) → n * p2 * (S * T) ≤ y * (d * (S * T) ^ 2)
taken-finer n d S T p2 y h =
    let g : n * p2 * T ≤ y * (d * S * (T * T)) = (rw (two T) at h) in
    rw (two (S * T)) (omega (arith, mul-le-mul_right S g))

whole-finer : (d S T : ℕ) → S * T * (d * (S * T) ^ 2) ≡ S * S * (T * (d * S * T ^ 2))
whole-finer d S T = rw (two (S * T), two T) (omega arith)

head-finer : (d S T y : ℕ) → y * (d * (S * T) ^ 2) ≡ S * (y * (d * S * T ^ 2))
head-finer d S T y = rw (two (S * T), two T) (omega arith)

loss-finer : (n S T p2 : ℕ) → n * p2 * (S * T) ≡ S * (n * p2 * T)
loss-finer n S T p2 = omega arith

left-finer : (n d S T p2 y : ℕ) → y * (d * (S * T) ^ 2) - n * p2 * (S * T)
    ≡ S * (y * (d * S * T ^ 2) - n * p2 * T)
left-finer n d S T p2 y =
    ap₂ (λ a b. a - b) (head-finer d S T y) (loss-finer n S T p2)
    ∙ sym (mul-sub S (y * (d * S * T ^ 2)) (n * p2 * T))

-- ---- both sides: P for the power of the flow, W and L for what is left and what it is a part of, and V and M for both
-- at the finer scale

finer-power : (S e f g : ℕ) → e ≡ f + g → S ^ e ≡ S ^ f * S ^ g
finer-power S e f g is = ap (λ x. S ^ x) is ∙ pow-add S f g

friction-at_most : (P kn kd W V L M S T f g e : ℕ) → e ≡ f + g → V ≡ S * S * W → M ≡ S * L
    → P * (kd * W ^ f) ≤ kn * S ^ g * L ^ f * T ^ e → P * (kd * V ^ f) ≤ kn * M ^ f * (S * T) ^ e
friction-at_most P kn kd W V L M S T f g e is v m h =
    rw (
      v,
      m,
      mul-pow (S * S) W f,
      mul-pow S S f,
      mul-pow S L f,
      mul-pow S T e,
      finer-power S e f g is,
    )
    (omega (arith, mul-le-mul_right (S ^ f * S ^ f) h))

friction-at_least : (P kn kd W V L M S T f g e : ℕ) → e ≡ f + g → V ≡ S * S * W → M ≡ S * L
    → kn * S ^ g * L ^ f * T ^ e ≤ P * (kd * W ^ f) → kn * M ^ f * (S * T) ^ e ≤ P * (kd * V ^ f)
friction-at_least P kn kd W V L M S T f g e is v m h =
    rw (
      v,
      m,
      mul-pow (S * S) W f,
      mul-pow S S f,
      mul-pow S L f,
      mul-pow S T e,
      finer-power S e f g is,
    )
    (omega (arith, mul-le-mul_right (S ^ f * S ^ f) h))

-- ---- both relations

module _ (S T : ℕ) (k r : Fraction) (p y : ℕ) where
  pub finer-at_most : PowerLossAtMost (constant_in_parts S k) (minor_in_parts S r) T p y
      → PowerLossAtMost k r (S * T) p y
  finer-at_most h = record {
    minor_within = record { crossed = taken-finer r.num r.den S T (p ^ 2) y h.minor_within.crossed };
    friction_within = record {
      crossed = friction-at_most (p ^ 1852) k.num k.den (T * (r.den * S * T ^ 2)) (S * T * (r.den * (S * T) ^ 2))
          (y * (r.den * S * T ^ 2) - r.num * p ^ 2 * T) (y * (r.den * (S * T) ^ 2) - r.num * p ^ 2 * (S * T)) S T 1000
          852 1852 refl (whole-finer r.den S T) (left-finer r.num r.den S T (p ^ 2) y) h.friction_within.crossed;
    };
  }

  pub finer-at_least : PowerLossAtLeast (constant_in_parts S k) (minor_in_parts S r) T p y
      → PowerLossAtLeast k r (S * T) p y
  finer-at_least h = record {
    crossed = friction-at_least (p ^ 1852) k.num k.den (T * (r.den * S * T ^ 2)) (S * T * (r.den * (S * T) ^ 2))
        (y * (r.den * S * T ^ 2) - r.num * p ^ 2 * T) (y * (r.den * (S * T) ^ 2) - r.num * p ^ 2 * (S * T)) S T 1000
        852 1852 refl (whole-finer r.den S T) (left-finer r.num r.den S T (p ^ 2) y) h.crossed;
  }
