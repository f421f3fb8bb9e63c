-- The tests of flows at a scale S: which pass goes on to lesser flows, or to greater ones, and to other heads.
use Rattle.std.proofs.Common.{◌≡◌, ℕ, zero, suc, ◌+◌, ◌-◌, ◌*◌, ◌^◌, ◌<◌, ◌≤◌, ◌⊎◌, inl, inr, true, false}
use Rattle.std.proofs.Common.{nat_le, arith, min, refl}
use Rattle.std.proofs.Common.{le_refl, le_trans, mul-le-mul_right, mul-pos}
use Rattle.std.specs.Prelude.{Option, Some, None, nat_lt, ◌&&◌}
use Rattle.std.proofs.Math.Nat.{mul-le-mul_left}
use Rattle.std.proofs.lemmas.Bool.{leb-true, le-leb, ltb-true, lt-ltb, and_parts, and_from, or_cases, or_left}
use Rattle.std.proofs.lemmas.Bool.{or_right, cond_both}
use Rattle.hyd_num.specs.declared.binary.Scaled.{Scaled}
use Rattle.hyd_num.specs.declared.pairs.Pair.{Pair}
use Rattle.hyd_num.specs.BinaryNumbers.{numerator, denominator}
use Rattle.hyd_num.proofs.EndsInOrder.{denominator_positive}
use Rattle.hyd_spec_power_laws.specs.CutPowers.{least}
use Rattle.hyd_spec_power_laws.specs.WholeFlows.{flow_side, greatest_head, greatest_flow}
use Rattle.hyd_spec_pipe_laws.specs.FlowsAtScale.{left_at_least_at, left_at_most_at, head_side_at, passes_low_at}
use Rattle.hyd_spec_pipe_laws.specs.FlowsAtScale.{passes_high_at, covers_at, flow_down_at, flow_up_at}
use Rattle.hyd_power_laws.proofs.FlowTests.{head-rises, flow-rises, quotient_rises, squares_rise, cases_none}
use Rattle.hyd_power_laws.proofs.FlowTests.{min_rises}
use Rattle.hyd_power_laws.proofs.GreatestAndLeast.{greatest-rises, least-rises, least_is}

one_many : (a n S : ℕ) → 1 ≤ n → 0 < S → a ≤ n * (S * a)
one_many a n S some above =
    let m : 0 < n * S = mul-pos (omega (arith, some)) above in
    let l : 1 * a ≤ n * S * a = mul-le-mul_right a (omega (arith, m)) in
    omega (arith, l)

module _ (S : ℕ) (above : 0 < S) where
  pub divisor : (s : Scaled) → 0 < denominator s * S
  divisor s = mul-pos (denominator_positive s) above

  pub head-rises_at : (k : Scaled) (y z : ℕ) → 1 ≤ y → y ≤ z → z < 2 ^ 128 → head_side_at S k y ≤ head_side_at S k z
  head-rises_at k y z some le short = mul-le-mul_left (S ^ 852) (head-rises k y z some le short)

  -- ---- what a minor loss leaves: less for greater flows, more of greater heads, and never more than the head

  least-falls : (minor : Option Pair) (d p q : ℕ) → p ≤ q → left_at_least_at S minor d q ≤ left_at_least_at S minor d p
  least-falls None d p q le = le_refl _
  least-falls (Some m) d p q le =
      let s = squares_rise (numerator m.hi) p q le in
      let l = quotient_rises (numerator m.hi * (p * p) * 2 ^ 60 + (denominator m.hi * S - 1))
      (numerator m.hi * (q * q) * 2 ^ 60 + (denominator m.hi * S - 1)) (denominator m.hi * S) (divisor m.hi)
      (omega (arith, s)) in
      omega (arith, l)

  most-falls : (minor : Option Pair) (d p q : ℕ) → p ≤ q → left_at_most_at S minor d q ≤ left_at_most_at S minor d p
  most-falls None d p q le = le_refl _
  most-falls (Some m) d p q le =
      let l = quotient_rises (numerator m.lo * (p * p) * 2 ^ 60) (numerator m.lo * (q * q) * 2 ^ 60)
      (denominator m.lo * S) (divisor m.lo) (squares_rise (numerator m.lo) p q le) in
      omega (arith, l)

  least-rises_by_head : (minor : Option Pair) (d e q : ℕ) → d ≤ e
      → left_at_least_at S minor d q ≤ left_at_least_at S minor e q
  least-rises_by_head None d e q le = omega (arith, le)
  least-rises_by_head (Some m) d e q le = omega (arith, le)

  most-rises_by_head : (minor : Option Pair) (d e q : ℕ) → d ≤ e
      → left_at_most_at S minor d q ≤ left_at_most_at S minor e q
  most-rises_by_head None d e q le = omega (arith, le)
  most-rises_by_head (Some m) d e q le = omega (arith, le)

  pub least-short : (minor : Option Pair) (d q : ℕ) → left_at_least_at S minor d q ≤ d * 2 ^ 60
  least-short None d q = le_refl _
  least-short (Some m) d q = omega arith

  pub most-short : (minor : Option Pair) (d q : ℕ) → left_at_most_at S minor d q ≤ d * 2 ^ 60
  most-short None d q = le_refl _
  most-short (Some m) d q = omega arith

  -- ---- what passes

  pub low_parts : (k : Scaled) (minor : Option Pair) (d q : ℕ) → passes_low_at S k minor d q ≡ true
      → (1 ≤ left_at_least_at S minor d q) × (flow_side k q ≤ head_side_at S k (left_at_least_at S minor d q))
  low_parts k minor d q pass =
      let p = and_parts (nat_lt 0 (left_at_least_at S minor d q))
      (nat_le (flow_side k q) (head_side_at S k (left_at_least_at S minor d q))) pass in
      ((let l = ltb-true _ _ p.0 in omega (arith, l)), leb-true _ _ p.1)

  low_from : (k : Scaled) (minor : Option Pair) (d q : ℕ) → 1 ≤ left_at_least_at S minor d q
      → flow_side k q ≤ head_side_at S k (left_at_least_at S minor d q) → passes_low_at S k minor d q ≡ true
  low_from k minor d q left within =
      and_from (nat_lt 0 (left_at_least_at S minor d q))
      (nat_le (flow_side k q) (head_side_at S k (left_at_least_at S minor d q)))
      (lt-ltb _ _ (omega (arith, left))) (le-leb _ _ within)

  pub high_parts : (k : Scaled) (minor : Option Pair) (d q : ℕ) → passes_high_at S k minor d q ≡ true
      → (left_at_most_at S minor d q ≤ 0) ⊎ (head_side_at S k (left_at_most_at S minor d q) ≤ flow_side k q)
  high_parts k minor d q pass = elim (or_cases (nat_le (left_at_most_at S minor d q) 0)
      (nat_le (head_side_at S k (left_at_most_at S minor d q)) (flow_side k q)) pass) [
        | inl e ↦ inl (leb-true _ _ e)
        | inr e ↦ inr (leb-true _ _ e)
      ]

  high_by_none : (k : Scaled) (minor : Option Pair) (d q : ℕ) → left_at_most_at S minor d q ≤ 0
      → passes_high_at S k minor d q ≡ true
  high_by_none k minor d q none = or_left (nat_le (left_at_most_at S minor d q) 0)
      (nat_le (head_side_at S k (left_at_most_at S minor d q)) (flow_side k q)) (le-leb _ _ none)

  high_by_flow : (k : Scaled) (minor : Option Pair) (d q : ℕ)
      → head_side_at S k (left_at_most_at S minor d q) ≤ flow_side k q → passes_high_at S k minor d q ≡ true
  high_by_flow k minor d q le = or_right (nat_le (left_at_most_at S minor d q) 0)
      (nat_le (head_side_at S k (left_at_most_at S minor d q)) (flow_side k q)) (le-leb _ _ le)

  -- a lesser flow at a greater head
  pub low-goes_on : (k : Scaled) (minor : Option Pair) (d e p q : ℕ) → e < 2 ^ 64 → q < 2 ^ 128 → d ≤ e → 1 ≤ p
      → p ≤ q → passes_low_at S k minor d q ≡ true → passes_low_at S k minor e p ≡ true
  low-goes_on k minor d e p q near short more some fewer pass =
      let h = low_parts k minor d q pass in
      let left : 1 ≤ left_at_least_at S minor d q = h.0 in
      let a : left_at_least_at S minor d q ≤ left_at_least_at S minor d p = least-falls minor d p q fewer in
      let b : left_at_least_at S minor d p ≤ left_at_least_at S minor e p = least-rises_by_head minor d e p more in
      let c : left_at_least_at S minor e p ≤ e * 2 ^ 60 = least-short minor e p in
      let l = flow-rises k p q some fewer short in
      let m = head-rises_at k (left_at_least_at S minor d q) (left_at_least_at S minor e p) left (le_trans a b)
      (omega (arith, c, near)) in
      low_from k minor e p (omega (arith, left, a, b)) (le_trans l (le_trans h.1 m))

  -- a greater flow at a lesser head
  pub high-goes_on : (k : Scaled) (minor : Option Pair) (d e p q : ℕ) → e < 2 ^ 64 → q < 2 ^ 128 → d ≤ e → 1 ≤ p
      → p ≤ q → passes_high_at S k minor e p ≡ true → passes_high_at S k minor d q ≡ true
  high-goes_on k minor d e p q near short fewer some more pass =
      let a : left_at_most_at S minor e q ≤ left_at_most_at S minor e p = most-falls minor e p q more in
      let b : left_at_most_at S minor d q ≤ left_at_most_at S minor e q = most-rises_by_head minor d e q fewer in
      let c : left_at_most_at S minor e p ≤ e * 2 ^ 60 = most-short minor e p in
      elim (high_parts k minor e p pass) [
        | inl none ↦ high_by_none k minor d q (le_trans b (le_trans a none))
        | inr le ↦ elim (cases_none (left_at_most_at S minor d q)) [
          | inl none ↦ high_by_none k minor d q none
          | inr left ↦
              let l = flow-rises k p q some more short in
              let m = head-rises_at k (left_at_most_at S minor d q) (left_at_most_at S minor e p) left (le_trans b a)
              (omega (arith, c, near)) in
              high_by_flow k minor d q (le_trans m (le_trans le l))
        ]
      ]

  -- ---- so the flows rise with the head

  pub down-rises : (k : Scaled) (minor : Option Pair) (d e : ℕ) → d ≤ e
      → flow_down_at S k minor d ≤ flow_down_at S k minor e
  down-rises k minor d e le =
      let l : min d greatest_head ≤ min e greatest_head = min_rises d e greatest_head le in
      greatest-rises (passes_low_at S k minor (min d greatest_head)) (passes_low_at S k minor (min e greatest_head))
      greatest_flow
      (λ q some within pass. low-goes_on k minor (min d greatest_head) (min e greatest_head) q q (omega arith)
      (omega (arith, within)) l some (le_refl _) pass)

  pub flow_up_found : (k : Scaled) (minor : Option Pair) (d : ℕ) → suc d ≤ greatest_head → covers_at S k minor ≡ true
      → flow_up_at S k minor (suc d) ≡ least (passes_high_at S k minor (suc d)) 1 (greatest_flow - 1)
  flow_up_found k minor d near covers =
      rw (and_from (nat_le (suc d) greatest_head) (covers_at S k minor) (le-leb (suc d) greatest_head near) covers) refl

  pub flow_up_beyond : (k : Scaled) (minor : Option Pair) (d : ℕ)
      → (nat_le (suc d) greatest_head && covers_at S k minor) ≡ false
      → flow_up_at S k minor (suc d) ≡ suc d * (S * greatest_flow)
  flow_up_beyond k minor d not = rw not refl

  pub flow_up-some : (k : Scaled) (minor : Option Pair) (d : ℕ) → 0 < flow_up_at S k minor (suc d)
  flow_up-some k minor d = cond_both (nat_le (suc d) greatest_head && covers_at S k minor)
      (least (passes_high_at S k minor (suc d)) 1 (greatest_flow - 1)) (suc d * (S * greatest_flow))
      (λ (n : ℕ). 0 < n)
      (λ yes. let l = (least_is (passes_high_at S k minor (suc d)) 1 (greatest_flow - 1)).at_least in omega (arith, l))
      (λ no. mul-pos (omega arith) (mul-pos above (omega arith)))

  found-rises : (k : Scaled) (minor : Option Pair) (d e : ℕ) → e ≤ greatest_head → d ≤ e
      → least (passes_high_at S k minor d) 1 (greatest_flow - 1)
      ≤ least (passes_high_at S k minor e) 1 (greatest_flow - 1)
  found-rises k minor d e short le =
      least-rises (passes_high_at S k minor d) (passes_high_at S k minor e) 1 (greatest_flow - 1)
      (λ q some within pass. high-goes_on k minor d e q q (omega (arith, short)) (omega (arith, within)) le some
      (le_refl _) pass)

  below-beyond : (k : Scaled) (minor : Option Pair) (d e : ℕ) → d ≤ e
      → flow_up_at S k minor (suc d) ≤ suc e * (S * greatest_flow)
  below-beyond k minor d e le = cond_both (nat_le (suc d) greatest_head && covers_at S k minor)
      (least (passes_high_at S k minor (suc d)) 1 (greatest_flow - 1)) (suc d * (S * greatest_flow))
      (λ (n : ℕ). n ≤ suc e * (S * greatest_flow))
      (λ yes.
      let w = (least_is (passes_high_at S k minor (suc d)) 1 (greatest_flow - 1)).within in
      let m : greatest_flow ≤ suc e * (S * greatest_flow) = one_many greatest_flow (suc e) S (omega arith) above in
      le_trans w m)
      (λ no. mul-le-mul_right (S * greatest_flow) (omega (arith, le)))

  pub up-rises : (k : Scaled) (minor : Option Pair) (d e : ℕ) → d ≤ e → flow_up_at S k minor d ≤ flow_up_at S k minor e
  up-rises k minor zero e le = omega arith
  up-rises k minor (suc d) zero le = absurd (omega (arith, le))
  up-rises k minor (suc d) (suc e) le = cond_both (nat_le (suc e) greatest_head && covers_at S k minor)
      (least (passes_high_at S k minor (suc e)) 1 (greatest_flow - 1)) (suc e * (S * greatest_flow))
      (λ (n : ℕ). flow_up_at S k minor (suc d) ≤ n)
      (λ yes.
      let p = and_parts (nat_le (suc e) greatest_head) (covers_at S k minor) yes in
      let near : suc e ≤ greatest_head = leb-true (suc e) greatest_head p.0 in
      rw (flow_up_found k minor d (le_trans le near) p.1) (found-rises k minor (suc d) (suc e) near le))
      (λ no. below-beyond k minor d e (omega (arith, le)))
