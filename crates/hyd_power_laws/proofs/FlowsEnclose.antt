-- The flows of a test enclose the exact flow at each scale.
use Rattle.std.proofs.Common.{◌≡◌, ℕ, zero, suc, ◌+◌, ◌-◌, ◌*◌, ◌/◌, ◌^◌, ◌<◌, ◌≤◌, inl, inr, true, ap, arith}
use Rattle.std.proofs.Common.{le_refl, le_trans, min}
use Rattle.std.proofs.Common.{mul-le-mul_right, le_of_mul-le-mul_right}
use Rattle.std.specs.Prelude.{Option, Some, None}
use Rattle.std.proofs.Math.Nat.{mul-le-mul_left, div-mul-le_self, lt-div-mul-add, pow-le-pow_right, mul-zero}
use Rattle.std.proofs.lemmas.Nat.{mul-pow}
use Rattle.std.proofs.lemmas.Bool.{cases_eq, cases_lt}
use Rattle.hyd_num.specs.declared.binary.Scaled.{Scaled}
use Rattle.hyd_num.specs.declared.pairs.Pair.{Pair}
use Rattle.hyd_num.specs.Fraction.{Fraction}
use Rattle.hyd_num.specs.Pairs.{Encloses}
use Rattle.hyd_num.specs.BinaryNumbers.{numerator, denominator}
use Rattle.hyd_num.proofs.EndsInOrder.{denominator_positive}
use Rattle.hyd_spec_power_laws.specs.CutPowers.{least}
use Rattle.hyd_spec_power_laws.specs.PowerCapacities.{IsLessened, IsRaised}
use Rattle.hyd_spec_power_laws.specs.PowerLosses.{PowerLossAtMost, PowerLossAtLeast, EnclosesMinor}
use Rattle.hyd_spec_power_laws.specs.WholeFlows.{left_at_least, left_at_most, passes_low, passes_high}
use Rattle.hyd_spec_power_laws.specs.WholeFlows.{flow_down, flow_up, Covers, greatest_head, greatest_flow}
use Rattle.hyd_power_laws.proofs.GreatestAndLeast.{greatest_is, least_is}
use Rattle.hyd_power_laws.proofs.FlowTests.{low_parts, high_parts, cases_none, left-least-short, left-most-short}
use Rattle.hyd_power_laws.proofs.FlowTests.{high-goes_on}
use Rattle.hyd_power_laws.proofs.FlowTests.{flow_up_found, flow_up_beyond}
use Rattle.hyd_power_laws.proofs.ExactFromTests.{low_exactly, high_exactly}
use Rattle.hyd_power_laws.proofs.LossesAtScale.{loses-at_most_scaled, loses-at_least_scaled, without_head, without_flow}
use Rattle.hyd_power_laws.proofs.LossesAtScale.{zero_power}

-- ---- what is left of a head, exactly

pub least_left : (nm dm rn rd qq dT z C : ℕ) → 0 < dm → z ≤ dT - C → 1 ≤ z → nm * qq * 2 ^ 60 ≤ C * dm
    → rn * dm ≤ nm * rd → z * rd + rn * qq * 2 ^ 60 ≤ dT * rd
least_left nm dm rn rd qq dT z C above le some ceiling most =
    let a : (z + C) * (dm * rd) ≤ dT * (dm * rd) = mul-le-mul_right (dm * rd) (omega (arith, le, some)) in
    let b : nm * qq * 2 ^ 60 * rd ≤ C * dm * rd = mul-le-mul_right rd ceiling in
    let c : rn * dm * (qq * 2 ^ 60) ≤ nm * rd * (qq * 2 ^ 60) = mul-le-mul_right (qq * 2 ^ 60) most in
    let l : (z * rd + rn * qq * 2 ^ 60) * dm ≤ dT * rd * dm = omega (arith, a, b, c) in
    le_of_mul-le-mul_right l above

pub left_at_least_is : (minor : Option Pair) (r : Fraction) (d q : ℕ) → EnclosesMinor minor r
    → 1 ≤ left_at_least minor d q
    → left_at_least minor d q * r.den + r.num * (q * q) * 2 ^ 60 ≤ d * 2 ^ 60 * r.den
left_at_least_is None r d q e some = omega (arith, ap (λ n. n * (q * q) * 2 ^ 60) e)
left_at_least_is (Some m) r d q e some =
    let D = denominator m.hi in
    let X = numerator m.hi * (q * q) * 2 ^ 60 in
    let above : 0 < denominator m.hi = denominator_positive m.hi in
    let c : numerator m.hi * (q * q) * 2 ^ 60 + (denominator m.hi - 1)
    < (numerator m.hi * (q * q) * 2 ^ 60 + (denominator m.hi - 1)) / denominator m.hi * denominator m.hi
    + denominator m.hi = lt-div-mul-add {a = numerator m.hi * (q * q) * 2 ^ 60 + (denominator m.hi - 1)} above in
    least_left (numerator m.hi) (denominator m.hi) r.num r.den (q * q) (d * 2 ^ 60) (left_at_least (Some m) d q)
    ((numerator m.hi * (q * q) * 2 ^ 60 + (denominator m.hi - 1)) / denominator m.hi) above (le_refl _) some
    (omega (arith, c, above)) e.high.crossed

pub most_left : (nm dm rn rd qq dT z C : ℕ) → 0 < dm → dT - C ≤ z → C * dm ≤ nm * qq * 2 ^ 60 → nm * rd ≤ rn * dm
    → dT * rd ≤ z * rd + rn * qq * 2 ^ 60
most_left nm dm rn rd qq dT z C above le floor most =
    let a : dT * (dm * rd) ≤ (z + C) * (dm * rd) = mul-le-mul_right (dm * rd) (omega (arith, le)) in
    let b : C * dm * rd ≤ nm * qq * 2 ^ 60 * rd = mul-le-mul_right rd floor in
    let c : nm * rd * (qq * 2 ^ 60) ≤ rn * dm * (qq * 2 ^ 60) = mul-le-mul_right (qq * 2 ^ 60) most in
    let l : dT * rd * dm ≤ (z * rd + rn * qq * 2 ^ 60) * dm = omega (arith, a, b, c) in
    le_of_mul-le-mul_right l above

pub left_at_most_is : (minor : Option Pair) (r : Fraction) (d q : ℕ) → EnclosesMinor minor r
    → d * 2 ^ 60 * r.den ≤ left_at_most minor d q * r.den + r.num * (q * q) * 2 ^ 60
left_at_most_is None r d q e = omega arith
left_at_most_is (Some m) r d q e =
    most_left (numerator m.lo) (denominator m.lo) r.num r.den (q * q) (d * 2 ^ 60) (left_at_most (Some m) d q)
    (numerator m.lo * (q * q) * 2 ^ 60 / denominator m.lo) (denominator_positive m.lo) (le_refl _)
    (div-mul-le_self (numerator m.lo * (q * q) * 2 ^ 60) (denominator m.lo)) e.low.crossed

-- ---- from the ends of the constant to the constant

pub from_low_end : (Q n d kn kd Z : ℕ) → 0 < d → Q * d ≤ n * Z → n * kd ≤ kn * d → Q * kd ≤ kn * Z
from_low_end Q n d kn kd Z above h g =
    let a : Q * d * kd ≤ n * Z * kd = mul-le-mul_right kd h in
    let b : n * kd * Z ≤ kn * d * Z = mul-le-mul_right Z g in
    let l : Q * kd * d ≤ kn * Z * d = omega (arith, a, b) in
    le_of_mul-le-mul_right l above

pub from_high_end : (Q n d kn kd Z : ℕ) → 0 < d → n * Z ≤ Q * d → kn * d ≤ n * kd → kn * Z ≤ Q * kd
from_high_end Q n d kn kd Z above h g =
    let a : n * Z * kd ≤ Q * d * kd = mul-le-mul_right kd h in
    let b : kn * d * Z ≤ n * kd * Z = mul-le-mul_right Z g in
    let l : kn * Z * d ≤ Q * kd * d = omega (arith, a, b) in
    le_of_mul-le-mul_right l above

pub nothing_left : (n w f b : ℕ) → 1 ≤ f → w ≤ 0 → n * w ^ f ≤ b
nothing_left n w f b some none =
    let e : w ≡ 0 = omega (arith, none) in
    rw (e, zero_power f some, mul-zero n) (omega arith)

-- ---- beyond the range of heads: as many times the flow loses at least as many times the head

many_left : (rn rd dT z qq n : ℕ) → 1 ≤ n → dT * rd ≤ z * rd + rn * qq * 2 ^ 60 → 2 ^ 60 ≤ dT
    → n * 2 ^ 60 * rd ≤ n * z * rd + rn * (n * n * qq) * 2 ^ 60
many_left rn rd dT z qq n some h long =
    let a : n * (dT * rd) ≤ n * (z * rd + rn * qq * 2 ^ 60) = mul-le-mul_left n h in
    let b : 2 ^ 60 * (n * rd) ≤ dT * (n * rd) = mul-le-mul_right (n * rd) long in
    let c : 1 * (n * (rn * qq * 2 ^ 60)) ≤ n * (n * (rn * qq * 2 ^ 60)) = mul-le-mul_right (n *
    (rn * qq * 2 ^ 60)) some in
    omega (arith, a, b, c)

many_powers : (kn kd z q n T e f : ℕ) → 1 ≤ n → f ≤ e → kn * z ^ f ≤ q ^ e * T * kd
    → kn * (n * z) ^ f ≤ (n * q) ^ e * T * kd
many_powers kn kd z q n T e f some le h =
    let p : n ^ f ≤ n ^ e = pow-le-pow_right some le in
    let a : n ^ f * (kn * z ^ f) ≤ n ^ f * (q ^ e * T * kd) = mul-le-mul_left (n ^ f) h in
    let b : n ^ f * (q ^ e * T * kd) ≤ n ^ e * (q ^ e * T * kd) = mul-le-mul_right (q ^ e * T * kd) p in
    rw (mul-pow n z f, mul-pow n q e) (omega (arith, a, b))

pub beyond_range : (f r : Fraction) (S n y z : ℕ) → 1 ≤ n → y ≤ S * n
    → greatest_head * 2 ^ 60 * r.den ≤ z * r.den + r.num * (greatest_flow * greatest_flow) * 2 ^ 60
    → f.num * z ^ 1000 ≤ greatest_flow ^ 1852 * (2 ^ 60) ^ 1000 * f.den
    → PowerLossAtLeast f r S (S * (n * greatest_flow)) y
beyond_range f r S n y z some le left friction =
    loses-at_least_scaled f r S n (n * greatest_flow) y (n * z) le
    (let m = many_left r.num r.den (greatest_head * 2 ^ 60) z (greatest_flow * greatest_flow) n some left
    (omega arith) in
    omega (arith, m))
    (many_powers f.num f.den z greatest_flow n ((2 ^ 60) ^ 1000) 1852 1000 some (omega arith) friction)

module _ (constant : Pair) (minor : Option Pair) (f r : Fraction) (encloses : Encloses constant f)
    (fittings : EnclosesMinor minor r) where
  passes-low_exactly : (k : Scaled) (d q : ℕ) → IsLessened constant k → d ≤ greatest_head → 1 ≤ q → q ≤ greatest_flow
      → passes_low k minor d q ≡ true → q ^ 1852 * (2 ^ 60) ^ 1000 * f.den ≤ f.num * left_at_least minor d q ^ 1000
  passes-low_exactly k d q lessened near some short pass =
      let p = low_parts k minor d q pass in
      let s = left-least-short minor d q in
      from_low_end (q ^ 1852 * (2 ^ 60) ^ 1000) (numerator constant.lo) (denominator constant.lo) f.num f.den
      (left_at_least minor d q ^ 1000) (denominator_positive constant.lo)
      (low_exactly constant k q (left_at_least minor d q) lessened some (omega (arith, short)) p.left
      (omega (arith, s, near)) p.within)
      encloses.low.crossed

  pub down-encloses : (k : Scaled) (S d y : ℕ) → IsLessened constant k → S * d ≤ y
      → PowerLossAtMost f r S (S * flow_down k minor d) y
  down-encloses k S d y lessened le =
      let e = min d greatest_head in
      let g = greatest_is (passes_low k minor (min d greatest_head)) greatest_flow in
      elim (cases_eq (flow_down k minor d) 0) [
        | inl z ↦ without_flow f r S (S * flow_down k minor d) y (rw z (mul-zero S))
        | inr ne ↦
            let some : 1 ≤ flow_down k minor d = omega (arith, ne) in
            let pass = g.passes some in
            let p = low_parts k minor (min d greatest_head) (flow_down k minor d) pass in
            let m : S * min d greatest_head ≤ S * d = mul-le-mul_left S (omega arith) in
            loses-at_most_scaled f r S (min d greatest_head) (flow_down k minor d) y
            (left_at_least minor (min d greatest_head) (flow_down k minor d)) (le_trans m le)
            (left_at_least_is minor r (min d greatest_head) (flow_down k minor d) fittings p.left)
            (passes-low_exactly k (min d greatest_head) (flow_down k minor d) lessened (omega arith) some g.within pass)
      ]

  pub passes-high_exactly : (k : Scaled) (d q : ℕ) → IsRaised constant k → d ≤ greatest_head → 1 ≤ q → q ≤ greatest_flow
      → passes_high k minor d q ≡ true → f.num * left_at_most minor d q ^ 1000 ≤ q ^ 1852 * (2 ^ 60) ^ 1000 * f.den
  passes-high_exactly k d q raised near some short pass =
      elim (cases_none (left_at_most minor d q)) [
        | inl none ↦ nothing_left f.num (left_at_most minor d q) 1000 (q ^ 1852 * (2 ^ 60) ^ 1000 * f.den)
            (omega arith) none
        | inr left ↦ elim (high_parts k minor d q pass) [
          | inl none ↦ absurd (omega (arith, left, none))
          | inr within ↦
              let s = left-most-short minor d q in
              from_high_end (q ^ 1852 * (2 ^ 60) ^ 1000) (numerator constant.hi) (denominator constant.hi) f.num f.den
              (left_at_most minor d q ^ 1000) (denominator_positive constant.hi)
              (high_exactly constant k q (left_at_most minor d q) raised some (omega (arith, short)) left
              (omega (arith, s, near)) within)
              encloses.high.crossed
        ]
      ]

  at_passing : (k : Scaled) (S d q y : ℕ) → IsRaised constant k → d ≤ greatest_head → 1 ≤ q → q ≤ greatest_flow
      → y ≤ S * d → passes_high k minor d q ≡ true → PowerLossAtLeast f r S (S * q) y
  at_passing k S d q y raised near some short le pass =
      loses-at_least_scaled f r S d q y (left_at_most minor d q) le (left_at_most_is minor r d q fittings)
      (passes-high_exactly k d q raised near some short pass)

  pub up-encloses : (k : Scaled) (S d y : ℕ) → IsRaised constant k → Covers k minor → y ≤ S * d
      → PowerLossAtLeast f r S (S * flow_up k minor d) y
  up-encloses k S zero y raised covers le =
      let z : y ≡ 0 = omega (arith, le) in
      rw z (without_head f r S (S * 0))
  up-encloses k S (suc d) y raised covers le = elim (cases_lt greatest_head (suc d)) [
    | inl beyond ↦ rw (flow_up_beyond k minor d beyond)
        (beyond_range f r S (suc d) y (left_at_most minor greatest_head greatest_flow) (omega arith) le
        (left_at_most_is minor r greatest_head greatest_flow fittings)
        (passes-high_exactly k greatest_head greatest_flow raised (le_refl _) (omega arith) (le_refl _) covers))
    | inr near ↦
        let l = least_is (passes_high k minor (suc d)) 1 (greatest_flow - 1) in
        rw (flow_up_found k minor d near)
        (at_passing k S (suc d) (least (passes_high k minor (suc d)) 1 (greatest_flow - 1)) y raised near l.at_least
        (omega (arith, l.within)) le
        (elim (cases_lt (least (passes_high k minor (suc d)) 1 (greatest_flow - 1)) greatest_flow) [
          | inl lt ↦ l.passes (omega (arith, lt))
          | inr ge ↦ high-goes_on k minor (suc d) greatest_head greatest_flow
              (least (passes_high k minor (suc d)) 1 (greatest_flow - 1)) (omega arith) (omega (arith, l.within)) near
              (omega arith) ge covers
        ]))
  ]
