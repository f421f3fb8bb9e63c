-- A loss by powers at any scale: it rises with the flow, one flow belongs to a head, and what a test says of whole
-- ticks holds at each scale.
use Rattle.std.proofs.Common.{◌≡◌, ℕ, zero, suc, ◌+◌, ◌-◌, ◌*◌, ◌^◌, ◌<◌, ◌≤◌, inl, inr, ap, ◌∙◌, arith, le_trans}
use Rattle.std.proofs.Common.{mul-le-mul_right, le_of_mul-le-mul_right, mul-pos, pow-suc}
use Rattle.std.proofs.Math.Nat.{mul-le-mul_left, pow-le-pow_left, pow-lt-pow_left, pow-zero, mul-zero}
use Rattle.std.proofs.lemmas.Nat.{mul-pow}
use Rattle.std.proofs.lemmas.Bool.{cases_lt}
use Rattle.hyd_num.specs.Fraction.{Fraction}
use Rattle.hyd_spec_power_laws.specs.PowerLosses.{PowerLossAtMost, PowerLossAtLeast}
use Rattle.hyd_power_laws.proofs.ExactFromTests.{positive_power}

-- the numerator of what is left of the head y, and its denominator
abbrev left : Fraction → ℕ → ℕ → ℕ → ℕ
left r S q y = y * (r.den * S ^ 2) - r.num * q ^ 2 * S

abbrev whole : Fraction → ℕ → ℕ
whole r S = S * (r.den * S ^ 2)

squares : (p q : ℕ) → p ≤ q → p ^ 2 ≤ q ^ 2
squares p q le = pow-le-pow_left le 2

taken_rises : (r : Fraction) (S p q : ℕ) → p ≤ q → r.num * p ^ 2 * S ≤ r.num * q ^ 2 * S
taken_rises r S p q le = mul-le-mul_right S (mul-le-mul_left r.num (squares p q le))

left_falls : (r : Fraction) (S p q y : ℕ) → p ≤ q → left r S q y ≤ left r S p y
left_falls r S p q y le = let a = taken_rises r S p q le in omega (arith, a)

driven_falls : (k r : Fraction) (S p q y f s : ℕ) → p ≤ q → k.num * left r S q y ^ f * s ≤ k.num * left r S p y ^ f * s
driven_falls k r S p q y f s le =
    mul-le-mul_right s (mul-le-mul_left k.num (pow-le-pow_left (left_falls r S p q y le) f))

flow_rises : (p q e s : ℕ) → p ≤ q → p ^ e * s ≤ q ^ e * s
flow_rises p q e s le = mul-le-mul_right s (pow-le-pow_left le e)

-- ---- it rises with the flow

pub loss-falls : (k r : Fraction) (S p q y : ℕ) → p ≤ q → PowerLossAtMost k r S q y → PowerLossAtMost k r S p y
loss-falls k r S p q y le h = record {
  minor_within = record { crossed = le_trans (taken_rises r S p q le) h.minor_within.crossed };
  friction_within = record {
    crossed = le_trans (flow_rises p q 1852 (k.den * whole r S ^ 1000) le)
        (le_trans h.friction_within.crossed (driven_falls k r S p q y 1000 (S ^ 1852) le));
  };
}

pub loss-rises : (k r : Fraction) (S p q y : ℕ) → p ≤ q → PowerLossAtLeast k r S p y → PowerLossAtLeast k r S q y
loss-rises k r S p q y le h = record {
  crossed = le_trans (driven_falls k r S p q y 1000 (S ^ 1852) le)
      (le_trans h.crossed (flow_rises p q 1852 (k.den * whole r S ^ 1000) le));
}

-- ---- a flow that loses at most a head is at most one that loses at least it

consistent_powers : (p q e s : ℕ) → 0 < s → ¬ (e ≡ 0) → q < p → p ^ e * s ≤ q ^ e * s → ⊥
consistent_powers p q e s above some lt h =
    let l : p ^ e ≤ q ^ e = le_of_mul-le-mul_right h above in
    let m : q ^ e < p ^ e = pow-lt-pow_left lt some in
    omega (arith, l, m)

pub loss-consistent : (k r : Fraction) (S p q y : ℕ) → 0 < S → 0 < k.den → 0 < r.den → PowerLossAtMost k r S p y
    → PowerLossAtLeast k r S q y → p ≤ q
loss-consistent k r S p q y scale k_above r_above most least = elim (cases_lt q p) [
  | inl lt ↦ absurd (
      let v : 0 < whole r S = mul-pos scale (mul-pos r_above (positive_power S 2 scale)) in
      let s : 0 < k.den * whole r S ^ 1000 = mul-pos k_above (positive_power (whole r S) 1000 v) in
      let a : k.num * left r S p y ^ 1000 * S ^ 1852 ≤ k.num * left r S q y ^ 1000 * S ^ 1852 =
      driven_falls k r S q p y 1000 (S ^ 1852) (omega (arith, lt)) in
      consistent_powers p q 1852 (k.den * whole r S ^ 1000) s (λ e. omega (arith, e)) lt
      (le_trans most.friction_within.crossed (le_trans a least.crossed)))
  | inr ge ↦ ge
]

-- ---- no head, and no flow

pub zero_power : (f : ℕ) → 1 ≤ f → 0 ^ f ≡ 0
zero_power zero some = absurd (omega (arith, some))
zero_power (suc f) some = pow-suc 0 f ∙ mul-zero (0 ^ f)

none_driven : (n w f s b : ℕ) → 1 ≤ f → w ≡ 0 → n * w ^ f * s ≤ b
none_driven n w f s b some e = rw (e, zero_power f some, mul-zero n) (omega arith)

pub without_head : (k r : Fraction) (S q : ℕ) → PowerLossAtLeast k r S q 0
without_head k r S q = record {
  crossed = none_driven k.num (left r S q 0) 1000 (S ^ 1852) (q ^ 1852 * (k.den * whole r S ^ 1000)) (omega arith)
      (omega arith);
}

none_flows : (q e s b : ℕ) → 1 ≤ e → q ≡ 0 → q ^ e * s ≤ b
none_flows q e s b some z = rw (z, zero_power e some) (omega arith)

none_taken : (n q s b : ℕ) → q ≡ 0 → n * q ^ 2 * s ≤ b
none_taken n q s b z = rw (z, zero_power 2 (omega arith), mul-zero n) (omega arith)

pub without_flow : (k r : Fraction) (S q y : ℕ) → q ≡ 0 → PowerLossAtMost k r S q y
without_flow k r S q y z = record {
  minor_within = record { crossed = none_taken r.num q S (y * (r.den * S ^ 2)) z };
  friction_within = record {
    crossed = none_flows q 1852 (k.den * whole r S ^ 1000) (k.num * left r S q y ^ 1000 * S ^ 1852) (omega arith) z;
  };
}

-- ---- from whole ticks to a scale

two : (a : ℕ) → a ^ 2 ≡ a * a
two a = pow-suc a 1 ∙ ap (λ x. x * a) (pow-suc a 0 ∙ ap (λ x. x * a) (pow-zero a)) ∙ omega arith

-- z in 2^-60 ticks is at most what is left of the head d in whole ticks, and so of a head that is at least d
left_at_least_scaled : (r : Fraction) (S d q y z : ℕ) → S * d ≤ y
    → z * r.den + r.num * (q * q) * 2 ^ 60 ≤ d * 2 ^ 60 * r.den
    → z * whole r S ≤ 2 ^ 60 * left r S (S * q) y
left_at_least_scaled r S d q y z le h =
    let s = two S in
    let t : (S * q) ^ 2 ≡ S * q * (S * q) = two (S * q) in
    let a : S * d * (r.den * (S * S)) ≤ y * (r.den * (S * S)) = mul-le-mul_right (r.den * (S * S)) le in
    let b : (z * r.den + r.num * (q * q) * 2 ^ 60) * (S * S * S) ≤ d * 2 ^ 60 * r.den * (S * S * S) = mul-le-mul_right
    (S * S * S) h in
    rw (s, t) (omega (arith, a, b))

taken_scaled : (r : Fraction) (S d q y z : ℕ) → S * d ≤ y → z * r.den + r.num * (q * q) * 2 ^ 60 ≤ d * 2 ^ 60 * r.den
    → r.num * (S * q) ^ 2 * S ≤ y * (r.den * S ^ 2)
taken_scaled r S d q y z le h =
    let s = two S in
    let t : (S * q) ^ 2 ≡ S * q * (S * q) = two (S * q) in
    let a : S * d * (r.den * (S * S)) ≤ y * (r.den * (S * S)) = mul-le-mul_right (r.den * (S * S)) le in
    let b : (z * r.den + r.num * (q * q) * 2 ^ 60) * (S * S * S) ≤ d * 2 ^ 60 * r.den * (S * S * S) = mul-le-mul_right
    (S * S * S) h in
    rw (s, t) (omega (arith, a, b))

-- the same from above
left_at_most_scaled : (r : Fraction) (S d q y z : ℕ) → y ≤ S * d
    → d * 2 ^ 60 * r.den ≤ z * r.den + r.num * (q * q) * 2 ^ 60
    → 2 ^ 60 * left r S (S * q) y ≤ z * whole r S
left_at_most_scaled r S d q y z le h =
    let s = two S in
    let t : (S * q) ^ 2 ≡ S * q * (S * q) = two (S * q) in
    let a : y * (r.den * (S * S)) ≤ S * d * (r.den * (S * S)) = mul-le-mul_right (r.den * (S * S)) le in
    let b : d * 2 ^ 60 * r.den * (S * S * S) ≤ (z * r.den + r.num * (q * q) * 2 ^ 60) * (S * S * S) = mul-le-mul_right
    (S * S * S) h in
    rw (s, t) (omega (arith, a, b))

-- Q, T, Z, V, W and E stand for powers of the flow, 2^60, z, both parts of what is left, and the scale
at_most_scaled : (Q T Z V W E kn kd : ℕ) → 0 < T → Q * T * kd ≤ kn * Z → Z * V ≤ T * W → E * Q * (kd * V) ≤ kn * W * E
at_most_scaled Q T Z V W E kn kd above h g =
    let a : Q * T * kd * V ≤ kn * Z * V = mul-le-mul_right V h in
    let b : kn * (Z * V) ≤ kn * (T * W) = mul-le-mul_left kn g in
    let c : Q * kd * V * T ≤ kn * W * T = omega (arith, a, b) in
    let d : Q * kd * V ≤ kn * W = le_of_mul-le-mul_right c above in
    let e : Q * kd * V * E ≤ kn * W * E = mul-le-mul_right E d in
    omega (arith, e)

at_least_scaled : (Q T Z V W E kn kd : ℕ) → 0 < T → kn * Z ≤ Q * T * kd → T * W ≤ Z * V → kn * W * E ≤ E * Q * (kd * V)
at_least_scaled Q T Z V W E kn kd above h g =
    let a : kn * Z * V ≤ Q * T * kd * V = mul-le-mul_right V h in
    let b : kn * (T * W) ≤ kn * (Z * V) = mul-le-mul_left kn g in
    let c : kn * W * T ≤ Q * kd * V * T = omega (arith, a, b) in
    let d : kn * W ≤ Q * kd * V = le_of_mul-le-mul_right c above in
    let e : kn * W * E ≤ Q * kd * V * E = mul-le-mul_right E d in
    omega (arith, e)

powers_at_most : (z V T W f : ℕ) → z * V ≤ T * W → z ^ f * V ^ f ≤ T ^ f * W ^ f
powers_at_most z V T W f h = rw (← mul-pow z V f, ← mul-pow T W f) (pow-le-pow_left h f)

pub loses-at_most_scaled : (k r : Fraction) (S d q y z : ℕ) → S * d ≤ y
    → z * r.den + r.num * (q * q) * 2 ^ 60 ≤ d * 2 ^ 60 * r.den → q ^ 1852 * (2 ^ 60) ^ 1000 * k.den ≤ k.num * z ^ 1000
    → PowerLossAtMost k r S (S * q) y
loses-at_most_scaled k r S d q y z le minor friction = record {
  minor_within = record { crossed = taken_scaled r S d q y z le minor };
  friction_within = record {
    crossed = rw (mul-pow S q 1852) (at_most_scaled (q ^ 1852) ((2 ^ 60) ^ 1000) (z ^ 1000) (whole r S ^ 1000)
        (left r S (S * q) y ^ 1000) (S ^ 1852) k.num k.den (positive_power (2 ^ 60) 1000 (omega arith)) friction
        (powers_at_most z (whole r S) (2 ^ 60) (left r S (S * q) y) 1000 (left_at_least_scaled r S d q y z le minor)));
  };
}

pub loses-at_least_scaled : (k r : Fraction) (S d q y z : ℕ) → y ≤ S * d
    → d * 2 ^ 60 * r.den ≤ z * r.den + r.num * (q * q) * 2 ^ 60 → k.num * z ^ 1000 ≤ q ^ 1852 * (2 ^ 60) ^ 1000 * k.den
    → PowerLossAtLeast k r S (S * q) y
loses-at_least_scaled k r S d q y z le minor friction = record {
  crossed = rw (mul-pow S q 1852) (at_least_scaled (q ^ 1852) ((2 ^ 60) ^ 1000) (z ^ 1000) (whole r S ^ 1000)
      (left r S (S * q) y ^ 1000) (S ^ 1852) k.num k.den (positive_power (2 ^ 60) 1000 (omega arith)) friction
      (powers_at_most (2 ^ 60) (left r S (S * q) y) z (whole r S) 1000 (left_at_most_scaled r S d q y z le minor)));
}
