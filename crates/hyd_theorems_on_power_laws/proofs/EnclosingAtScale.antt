-- The flows of a test at a scale S enclose the exact flow at the scales that S divides.
use Rattle.std.proofs.Common.{◌≡◌, ℕ, zero, suc, ◌+◌, ◌-◌, ◌*◌, ◌/◌, ◌^◌, ◌<◌, ◌≤◌, inl, inr, true, ap, subst, arith}
use Rattle.std.proofs.Common.{nat_le, le_refl, le_trans, min, mul-le-mul_right}
use Rattle.std.specs.Prelude.{Option, Some, None, ◌&&◌}
use Rattle.std.proofs.Math.Nat.{mul-le-mul_left, div-mul-le_self, lt-div-mul-add, mul-zero}
use Rattle.std.proofs.lemmas.Bool.{cases_eq, cases_lt, cond_both, and_parts, leb-true}
use Rattle.hyd_num.specs.declared.binary.Scaled.{Scaled}
use Rattle.hyd_num.specs.declared.pairs.Pair.{Pair}
use Rattle.hyd_num.specs.Fraction.{Fraction}
use Rattle.hyd_num.specs.Pairs.{Encloses}
use Rattle.hyd_num.specs.BinaryNumbers.{numerator, denominator}
use Rattle.hyd_num.proofs.EndsInOrder.{denominator_positive}
use Rattle.hyd_spec_power_laws.specs.CutPowers.{least}
use Rattle.hyd_spec_power_laws.specs.PowerCapacities.{IsLessened, IsRaised}
use Rattle.hyd_spec_power_laws.specs.PowerLosses.{PowerLossAtMost, PowerLossAtLeast, EnclosesMinor}
use Rattle.hyd_spec_power_laws.specs.WholeFlows.{Covers, left_at_most, greatest_head, greatest_flow}
use Rattle.hyd_spec_pipe_laws.specs.FlowsAtScale.{left_at_least_at, left_at_most_at, passes_low_at, passes_high_at}
use Rattle.hyd_spec_pipe_laws.specs.FlowsAtScale.{covers_at, flow_down_at, flow_up_at}
use Rattle.hyd_power_laws.proofs.GreatestAndLeast.{greatest_is, least_is}
use Rattle.hyd_power_laws.proofs.FlowTests.{cases_none}
use Rattle.hyd_power_laws.proofs.ExactFromTests.{low_exactly-times, high_exactly-times}
use Rattle.hyd_power_laws.proofs.FlowsEnclose.{least_left, most_left, from_low_end, from_high_end, nothing_left}
use Rattle.hyd_power_laws.proofs.FlowsEnclose.{beyond_range, passes-high_exactly, left_at_most_is}
use Rattle.hyd_power_laws.proofs.LossesAtScale.{without_flow, without_head, loses-at_most_scaled}
use Rattle.hyd_power_laws.proofs.LossesAtScale.{loses-at_least_scaled}
use Rattle.hyd_theorems_on_power_laws.proofs.ScalesOfLosses.{constant_in_parts, minor_in_parts, finer-at_most}
use Rattle.hyd_theorems_on_power_laws.proofs.ScalesOfLosses.{finer-at_least}
use Rattle.hyd_theorems_on_power_laws.proofs.TestsAtScale.{divisor, least-short, most-short, low_parts, high_parts}
use Rattle.hyd_theorems_on_power_laws.proofs.TestsAtScale.{high-goes_on}

-- ---- what is left of a head, exactly

across : (a b c d S : ℕ) → a * b ≤ c * d → a * (b * S) ≤ c * (d * S)
across a b c d S h = omega (arith, mul-le-mul_right S h)

enough : (X D C : ℕ) → 0 < D → X + (D - 1) < C * D + D → X ≤ C * D
enough X D C above h = omega (arith, above, h)

left_at_least_is : (S : ℕ) → 0 < S → (minor : Option Pair) (r : Fraction) (d q : ℕ) → EnclosesMinor minor r
    → 1 ≤ left_at_least_at S minor d q
    → left_at_least_at S minor d q * (r.den * S) + r.num * (q * q) * 2 ^ 60 ≤ d * 2 ^ 60 * (r.den * S)
left_at_least_is S above None r d q e some = omega (arith, ap (λ n. n * (q * q) * 2 ^ 60) e)
left_at_least_is S above (Some m) r d q e some =
    least_left (numerator m.hi) (denominator m.hi * S) r.num (r.den * S) (q * q) (d * 2 ^ 60)
    (left_at_least_at S (Some m) d q)
    ((numerator m.hi * (q * q) * 2 ^ 60 + (denominator m.hi * S - 1)) / (denominator m.hi * S)) (divisor S above m.hi)
    (le_refl _) some
    (enough (numerator m.hi * (q * q) * 2 ^ 60) (denominator m.hi * S)
    ((numerator m.hi * (q * q) * 2 ^ 60 + (denominator m.hi * S - 1)) / (denominator m.hi * S)) (divisor S above m.hi)
    (lt-div-mul-add {a = numerator m.hi * (q * q) * 2 ^ 60 + (denominator m.hi * S - 1)} (divisor S above m.hi)))
    (across r.num (denominator m.hi) (numerator m.hi) r.den S e.high.crossed)

left_at_most_at-is : (S : ℕ) → 0 < S → (minor : Option Pair) (r : Fraction) (d q : ℕ) → EnclosesMinor minor r
    → d * 2 ^ 60 * (r.den * S) ≤ left_at_most_at S minor d q * (r.den * S) + r.num * (q * q) * 2 ^ 60
left_at_most_at-is S above None r d q e = omega arith
left_at_most_at-is S above (Some m) r d q e =
    most_left (numerator m.lo) (denominator m.lo * S) r.num (r.den * S) (q * q) (d * 2 ^ 60)
    (left_at_most_at S (Some m) d q) (numerator m.lo * (q * q) * 2 ^ 60 / (denominator m.lo * S)) (divisor S above m.lo)
    (le_refl _) (div-mul-le_self (numerator m.lo * (q * q) * 2 ^ 60) (denominator m.lo * S))
    (across (numerator m.lo) r.den r.num (denominator m.lo) S e.low.crossed)

-- ---- factors

grouped-at_most : (a d n E z : ℕ) → a * d ≤ n * (E * z) → a * d ≤ n * E * z
grouped-at_most a d n E z h = omega (arith, h)

grouped-at_least : (a d n E z : ℕ) → n * (E * z) ≤ a * d → n * E * z ≤ a * d
grouped-at_least a d n E z h = omega (arith, h)

moved : (S T n g : ℕ) → S * T * (n * g) ≡ T * (n * (S * g))
moved S T n g = omega arith

-- a head in parts is at most as many ticks
in_parts : (S T n y : ℕ) → 0 < S → y ≤ T * n → y ≤ S * T * n
in_parts S T n y above le =
    let l : 1 * (T * n) ≤ S * (T * n) = mul-le-mul_right (T * n) (omega (arith, above)) in
    omega (arith, l, le)

module _ (S : ℕ) (above : 0 < S) (constant : Pair) (minor : Option Pair) (f r : Fraction)
    (encloses : Encloses constant f) (fittings : EnclosesMinor minor r)
  where
    low_exactly : (k : Scaled) (d q : ℕ) → IsLessened constant k → d ≤ greatest_head → 1 ≤ q → q ≤ greatest_flow
        → passes_low_at S k minor d q ≡ true
        → q ^ 1852 * (2 ^ 60) ^ 1000 * f.den ≤ f.num * S ^ 852 * left_at_least_at S minor d q ^ 1000
    low_exactly k d q lessened near some short pass =
        let p = low_parts S above k minor d q pass in
        let s = least-short S above minor d q in
        grouped-at_most (q ^ 1852 * (2 ^ 60) ^ 1000) f.den f.num (S ^ 852) (left_at_least_at S minor d q ^ 1000)
        (from_low_end (q ^ 1852 * (2 ^ 60) ^ 1000) (numerator constant.lo) (denominator constant.lo) f.num f.den
        (S ^ 852 * left_at_least_at S minor d q ^ 1000) (denominator_positive constant.lo)
        (low_exactly-times (S ^ 852) constant k q (left_at_least_at S minor d q) lessened some (omega (arith, short))
        p.0 (omega (arith, s, near)) p.1)
        encloses.low.crossed)

    pub down-encloses : (k : Scaled) (T d y : ℕ) → IsLessened constant k → T * d ≤ y
        → PowerLossAtMost f r (S * T) (T * flow_down_at S k minor d) y
    down-encloses k T d y lessened le =
        let g = greatest_is (passes_low_at S k minor (min d greatest_head)) greatest_flow in
        elim (cases_eq (flow_down_at S k minor d) 0) [
          | inl z ↦ without_flow f r (S * T) (T * flow_down_at S k minor d) y (rw z (mul-zero T))
          | inr ne ↦
              let some : 1 ≤ flow_down_at S k minor d = omega (arith, ne) in
              let pass = g.passes some in
              let p = low_parts S above k minor (min d greatest_head) (flow_down_at S k minor d) pass in
              let m : T * min d greatest_head ≤ T * d = mul-le-mul_left T (omega arith) in
              finer-at_most S T f r (T * flow_down_at S k minor d) y
              (loses-at_most_scaled (constant_in_parts S f) (minor_in_parts S r) T (min d greatest_head)
              (flow_down_at S k minor d) y (left_at_least_at S minor (min d greatest_head) (flow_down_at S k minor d))
              (le_trans m le)
              (left_at_least_is S above minor r (min d greatest_head) (flow_down_at S k minor d) fittings p.0)
              (low_exactly k (min d greatest_head) (flow_down_at S k minor d) lessened (omega arith) some g.within
              pass))
        ]

    high_exactly : (k : Scaled) (d q : ℕ) → IsRaised constant k → d ≤ greatest_head → 1 ≤ q → q ≤ greatest_flow
        → passes_high_at S k minor d q ≡ true
        → f.num * S ^ 852 * left_at_most_at S minor d q ^ 1000 ≤ q ^ 1852 * (2 ^ 60) ^ 1000 * f.den
    high_exactly k d q raised near some short pass =
        elim (cases_none (left_at_most_at S minor d q)) [
          | inl none ↦ nothing_left (f.num * S ^ 852) (left_at_most_at S minor d q) 1000
              (q ^ 1852 * (2 ^ 60) ^ 1000 * f.den) (omega arith) none
          | inr left ↦ elim (high_parts S above k minor d q pass) [
            | inl none ↦ absurd (omega (arith, left, none))
            | inr within ↦
                let s = most-short S above minor d q in
                grouped-at_least (q ^ 1852 * (2 ^ 60) ^ 1000) f.den f.num (S ^ 852)
                (left_at_most_at S minor d q ^ 1000)
                (from_high_end (q ^ 1852 * (2 ^ 60) ^ 1000) (numerator constant.hi) (denominator constant.hi) f.num
                f.den (S ^ 852 * left_at_most_at S minor d q ^ 1000) (denominator_positive constant.hi)
                (high_exactly-times (S ^ 852) constant k q (left_at_most_at S minor d q) raised some
                (omega (arith, short)) left (omega (arith, s, near)) within)
                encloses.high.crossed)
          ]
        ]

    at_passing : (k : Scaled) (T d q y : ℕ) → IsRaised constant k → d ≤ greatest_head → 1 ≤ q → q ≤ greatest_flow
        → y ≤ T * d → passes_high_at S k minor d q ≡ true → PowerLossAtLeast f r (S * T) (T * q) y
    at_passing k T d q y raised near some short le pass =
        finer-at_least S T f r (T * q) y
        (loses-at_least_scaled (constant_in_parts S f) (minor_in_parts S r) T d q y (left_at_most_at S minor d q) le
        (left_at_most_at-is S above minor r d q fittings) (high_exactly k d q raised near some short pass))

    found : (k : Scaled) (T d y : ℕ) → IsRaised constant k → y ≤ T * suc d → suc d ≤ greatest_head
        → covers_at S k minor ≡ true
        → PowerLossAtLeast f r (S * T) (T * least (passes_high_at S k minor (suc d)) 1 (greatest_flow - 1)) y
    found k T d y raised le near covers =
        let l = least_is (passes_high_at S k minor (suc d)) 1 (greatest_flow - 1) in
        let some : 1 ≤ least (passes_high_at S k minor (suc d)) 1 (greatest_flow - 1) = l.at_least in
        let within : least (passes_high_at S k minor (suc d)) 1 (greatest_flow - 1) ≤ greatest_flow = l.within in
        at_passing k T (suc d) (least (passes_high_at S k minor (suc d)) 1 (greatest_flow - 1)) y raised near some
        within le
        (elim (cases_lt (least (passes_high_at S k minor (suc d)) 1 (greatest_flow - 1)) greatest_flow) [
          | inl lt ↦ l.passes (omega (arith, lt))
          | inr ge ↦ high-goes_on S above k minor (suc d) greatest_head greatest_flow
              (least (passes_high_at S k minor (suc d)) 1 (greatest_flow - 1)) (omega arith) (omega (arith, within))
              near (omega arith) ge covers
        ])

    beyond : (k : Scaled) (T d y : ℕ) → IsRaised constant k → Covers k minor → y ≤ T * suc d
        → PowerLossAtLeast f r (S * T) (T * (suc d * (S * greatest_flow))) y
    beyond k T d y raised covers le =
        subst (λ (q : ℕ). PowerLossAtLeast f r (S * T) q y) (moved S T (suc d) greatest_flow)
        (beyond_range f r (S * T) (suc d) y (left_at_most minor greatest_head greatest_flow) (omega arith)
        (in_parts S T (suc d) y above le)
        (left_at_most_is minor r greatest_head greatest_flow fittings)
        (passes-high_exactly constant minor f r encloses fittings k greatest_head greatest_flow raised (le_refl _)
        (omega arith) (le_refl _) covers))

    pub up-encloses : (k : Scaled) (T d y : ℕ) → IsRaised constant k → Covers k minor → y ≤ T * d
        → PowerLossAtLeast f r (S * T) (T * flow_up_at S k minor d) y
    up-encloses k T zero y raised covers le =
        let z : y ≡ 0 = omega (arith, le) in
        rw z (without_head f r (S * T) (T * 0))
    up-encloses k T (suc d) y raised covers le = cond_both (nat_le (suc d) greatest_head && covers_at S k minor)
        (least (passes_high_at S k minor (suc d)) 1 (greatest_flow - 1)) (suc d * (S * greatest_flow))
        (λ (n : ℕ). PowerLossAtLeast f r (S * T) (T * n) y)
        (λ yes.
        let p = and_parts (nat_le (suc d) greatest_head) (covers_at S k minor) yes in
        found k T d y raised le (leb-true (suc d) greatest_head p.0) p.1)
        (λ no. beyond k T d y raised covers le)
