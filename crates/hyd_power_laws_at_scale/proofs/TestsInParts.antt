-- The tests of flows by the numbers in parts are those at the scale.
use Rattle.std.proofs.Common.{◌≡◌, ℕ, zero, suc, ◌+◌, ◌-◌, ◌*◌, ◌^◌, ◌<◌, ◌≤◌, Bool, true, inl, inr, ℤ, pos}
use Rattle.std.proofs.Common.{negsuc, neg_ℤ, ◌≤ℤ◌, ◌<ℤ◌, unsigned_abs, refl, sym, ap, ◌∙◌, arith, min, nat_le, pow-suc}
use Rattle.std.proofs.Common.{mul-le-mul_right, le_of_mul-le-mul_right}
use Rattle.std.specs.Prelude.{Option, Some, None, nat_lt, ◌&&◌, ◌||◌}
use Rattle.std.proofs.Math.Nat.{pow-zero}
use Rattle.std.proofs.lemmas.Nat.{pow_pos, pow-add}
use Rattle.std.proofs.lemmas.Bool.{cases_lt, le-leb, lt-leb}
use Rattle.std.proofs.lemmas.Int.{ints}
use borrow.Author.Differences.{up, down}
use Rattle.hyd_num.specs.declared.binary.Scaled.{Scaled}
use Rattle.hyd_num.specs.declared.pairs.Pair.{Pair}
use Rattle.hyd_num.specs.BinaryNumbers.{numerator, denominator}
use Rattle.hyd_num.proofs.EndsInOrder.{denominator_positive}
use Rattle.hyd_spec_power_laws.specs.declared.power_capacities.PowerCapacity.{PowerCapacity}
use Rattle.hyd_spec_power_laws.specs.CutPowers.{value, cut_product, cut_power, in_63_digits, digits_of_1000}
use Rattle.hyd_spec_power_laws.specs.CutPowers.{digits_of_1852, greatest, least}
use Rattle.hyd_spec_power_laws.specs.WholeFlows.{left_at_least, left_at_most, flow_side, head_side, driving, passes_low}
use Rattle.hyd_spec_power_laws.specs.WholeFlows.{passes_high, flow_down, flow_up, greatest_head, greatest_flow}
use Rattle.hyd_spec_pipe_laws.specs.FlowsAtScale.{left_at_least_at, left_at_most_at, head_side_at, passes_low_at}
use Rattle.hyd_spec_pipe_laws.specs.FlowsAtScale.{passes_high_at, covers_at, flow_down_at, flow_up_at, power_low_at}
use Rattle.hyd_spec_pipe_laws.specs.FlowsAtScale.{power_high_at}
use Rattle.hyd_power_laws.proofs.FlowTests as whole
use Rattle.hyd_theorems_on_power_laws.proofs.TestsAtScale as at
use Rattle.hyd_power_laws_at_scale.specs.Parts.{IsTimes, IsMinorDivided}
use Rattle.hyd_power_laws_at_scale.proofs.ShiftedNumbers.{powers_are, times_is, same_quotient, same_ceiling}

-- ---- what a minor loss leaves

-- n / d is 2^p times m / e
scaled_alike : (n d m e w x : ℕ) → n * e ≡ w * m * d → m * x * 2 ^ 60 * (d * w) ≡ n * x * 2 ^ 60 * e
scaled_alike n d m e w x h = omega (arith, ap (λ y. y * x * 2 ^ 60) h)

least-in-parts : (p : ℕ) (minor parts : Option Pair) (d q : ℕ) → IsMinorDivided p minor parts
    → left_at_least parts d q ≡ left_at_least_at (2 ^ p) minor d q
least-in-parts p None None d q is = refl
least-in-parts p None (Some s) d q is = absurd is
least-in-parts p (Some r) None d q is = absurd is
least-in-parts p (Some r) (Some s) d q is =
    ap (λ x. d * 2 ^ 60 - x)
    (same_ceiling (numerator s.hi * (q * q) * 2 ^ 60) (denominator s.hi) (numerator r.hi * (q * q) * 2 ^ 60)
    (denominator r.hi * 2 ^ p) (denominator_positive s.hi) (at.divisor (2 ^ p) (pow_pos p) r.hi)
    (scaled_alike (numerator r.hi) (denominator r.hi) (numerator s.hi) (denominator s.hi) (2 ^ p) (q * q)
    (times_is p s.hi r.hi is.high)))

most-in-parts : (p : ℕ) (minor parts : Option Pair) (d q : ℕ) → IsMinorDivided p minor parts
    → left_at_most parts d q ≡ left_at_most_at (2 ^ p) minor d q
most-in-parts p None None d q is = refl
most-in-parts p None (Some s) d q is = absurd is
most-in-parts p (Some r) None d q is = absurd is
most-in-parts p (Some r) (Some s) d q is =
    ap (λ x. d * 2 ^ 60 - x)
    (same_quotient (numerator s.lo * (q * q) * 2 ^ 60) (denominator s.lo) (numerator r.lo * (q * q) * 2 ^ 60)
    (denominator r.lo * 2 ^ p) (denominator_positive s.lo) (at.divisor (2 ^ p) (pow_pos p) r.lo)
    (scaled_alike (numerator r.lo) (denominator r.lo) (numerator s.lo) (denominator s.lo) (2 ^ p) (q * q)
    (times_is p s.lo r.lo is.low)))

-- ---- both sides: P and D for the powers of the flow and of the head, A for 2^7176, u and d for the powers of two of
-- an exponent's parts, in whole ticks and (v and e) in parts, W for what the constant is multiplied by

forth : (P A D u d v e W : ℕ) → 0 < e → v * d ≡ W * u * e → P * (A * e) ≤ D * v → P * (A * d) ≤ W * (D * u)
forth P A D u d v e W some is h =
    let l : P * (A * e) * d ≤ D * v * d = mul-le-mul_right d h in
    let m : D * (v * d) ≡ D * (W * u * e) = ap (λ x. D * x) is in
    let n : P * (A * d) * e ≤ W * (D * u) * e = omega (arith, l, m) in
    le_of_mul-le-mul_right n some

back : (P A D u d v e W : ℕ) → 0 < d → v * d ≡ W * u * e → P * (A * d) ≤ W * (D * u) → P * (A * e) ≤ D * v
back P A D u d v e W some is h =
    let l : P * (A * d) * e ≤ W * (D * u) * e = mul-le-mul_right e h in
    let m : D * (v * d) ≡ D * (W * u * e) = ap (λ x. D * x) is in
    let n : P * (A * e) * d ≤ D * v * d = omega (arith, l, m) in
    le_of_mul-le-mul_right n some

forth_high : (P A D u d v e W : ℕ) → 0 < e → v * d ≡ W * u * e → D * v ≤ P * (A * e) → W * (D * u) ≤ P * (A * d)
forth_high P A D u d v e W some is h =
    let l : D * v * d ≤ P * (A * e) * d = mul-le-mul_right d h in
    let m : D * (v * d) ≡ D * (W * u * e) = ap (λ x. D * x) is in
    let n : W * (D * u) * e ≤ P * (A * d) * e = omega (arith, l, m) in
    le_of_mul-le-mul_right n some

back_high : (P A D u d v e W : ℕ) → 0 < d → v * d ≡ W * u * e → W * (D * u) ≤ P * (A * d) → D * v ≤ P * (A * e)
back_high P A D u d v e W some is h =
    let l : W * (D * u) * e ≤ P * (A * d) * e = mul-le-mul_right e h in
    let m : D * (v * d) ≡ D * (W * u * e) = ap (λ x. D * x) is in
    let n : D * v * d ≤ P * (A * e) * d = omega (arith, l, m) in
    le_of_mul-le-mul_right n some

same_test : (a b c d : ℕ) → (a ≤ b → c ≤ d) → (c ≤ d → a ≤ b) → nat_le a b ≡ nat_le c d
same_test a b c d f g = elim (cases_lt b a) [
  | inl lt ↦ elim (cases_lt d c) [
    | inl less ↦ lt-leb a b lt ∙ sym (lt-leb c d less)
    | inr le ↦ absurd (let l = g le in omega (arith, l, lt))
  ]
  | inr le ↦ le-leb a b le ∙ sym (le-leb c d (f le))
]

power_of_power : (p n : ℕ) → (2 ^ p) ^ n ≡ 2 ^ (n * p)
power_of_power p zero = pow-zero (2 ^ p) ∙ sym (ap (λ k. 2 ^ k) (let e : 0 * p ≡ 0 = omega arith in e) ∙ pow-zero 2)
power_of_power p (suc n) =
    pow-suc (2 ^ p) n ∙ ap (λ x. x * 2 ^ p) (power_of_power p n) ∙ sym (pow-add 2 (n * p) p)
    ∙ ap (λ k. 2 ^ k) (let e : n * p + p ≡ suc n * p = omega arith in e)

sides_are : (p n : ℕ) (k t : Scaled) → IsTimes (n * p) k t
    → 2 ^ up t.exp * 2 ^ down k.exp ≡ (2 ^ p) ^ n * 2 ^ up k.exp * 2 ^ down t.exp
sides_are p n k t is =
    powers_are (n * p) k t is ∙ ap (λ w. w * 2 ^ up k.exp * 2 ^ down t.exp) (sym (power_of_power p n))

driving_is : (n : ℕ) (k t : Scaled) (z : ℕ) → IsTimes n k t → value (driving t z) ≡ value (driving k z)
driving_is n k t z is =
    ap (λ m. value (cut_product (record { mant = m; exp = 0 }) (cut_power (in_63_digits z) digits_of_1000))) is.mantissa

-- the flow's side, with the power of two apart
flow_side_is : (k : Scaled) (q : ℕ)
    → flow_side k q ≡ value (cut_power (in_63_digits q) digits_of_1852) * (2 ^ 7176 * 2 ^ down k.exp)
flow_side_is k q = ap (λ x. value (cut_power (in_63_digits q) digits_of_1852) * x) (pow-add 2 7176 (down k.exp))

module _ (p : ℕ) (k t : Scaled) (is : IsTimes (852 * p) k t) where
  head_side_is : (z : ℕ) → head_side t z ≡ value (driving k z) * 2 ^ up t.exp
  head_side_is z = ap (λ x. x * 2 ^ up t.exp) (driving_is (852 * p) k t z is)

  low_test : (q z : ℕ) → nat_le (flow_side t q) (head_side t z) ≡ nat_le (flow_side k q) (head_side_at (2 ^ p) k z)
  low_test q z =
      rw (flow_side_is t q, flow_side_is k q, head_side_is z)
      (same_test (value (cut_power (in_63_digits q) digits_of_1852) * (2 ^ 7176 * 2 ^ down t.exp))
      (value (driving k z) * 2 ^ up t.exp)
      (value (cut_power (in_63_digits q) digits_of_1852) * (2 ^ 7176 * 2 ^ down k.exp)) (head_side_at (2 ^ p) k z)
      (forth (value (cut_power (in_63_digits q) digits_of_1852)) (2 ^ 7176) (value (driving k z)) (2 ^ up k.exp)
      (2 ^ down k.exp) (2 ^ up t.exp) (2 ^ down t.exp) ((2 ^ p) ^ 852) (pow_pos (down t.exp)) (sides_are p 852 k t is))
      (back (value (cut_power (in_63_digits q) digits_of_1852)) (2 ^ 7176) (value (driving k z)) (2 ^ up k.exp)
      (2 ^ down k.exp) (2 ^ up t.exp) (2 ^ down t.exp) ((2 ^ p) ^ 852) (pow_pos (down k.exp))
      (sides_are p 852 k t is)))

  high_test : (q z : ℕ) → nat_le (head_side t z) (flow_side t q) ≡ nat_le (head_side_at (2 ^ p) k z) (flow_side k q)
  high_test q z =
      rw (flow_side_is t q, flow_side_is k q, head_side_is z)
      (same_test (value (driving k z) * 2 ^ up t.exp)
      (value (cut_power (in_63_digits q) digits_of_1852) * (2 ^ 7176 * 2 ^ down t.exp)) (head_side_at (2 ^ p) k z)
      (value (cut_power (in_63_digits q) digits_of_1852) * (2 ^ 7176 * 2 ^ down k.exp))
      (forth_high (value (cut_power (in_63_digits q) digits_of_1852)) (2 ^ 7176) (value (driving k z)) (2 ^ up k.exp)
      (2 ^ down k.exp) (2 ^ up t.exp) (2 ^ down t.exp) ((2 ^ p) ^ 852) (pow_pos (down t.exp)) (sides_are p 852 k t is))
      (back_high (value (cut_power (in_63_digits q) digits_of_1852)) (2 ^ 7176) (value (driving k z)) (2 ^ up k.exp)
      (2 ^ down k.exp) (2 ^ up t.exp) (2 ^ down t.exp) ((2 ^ p) ^ 852) (pow_pos (down k.exp))
      (sides_are p 852 k t is)))

  -- ---- the tests and the flows

  module _ (minor parts : Option Pair) (divided : IsMinorDivided p minor parts) where
    low_passes : (d q : ℕ) → passes_low t parts d q ≡ passes_low_at (2 ^ p) k minor d q
    low_passes d q =
        ap (λ z. nat_lt 0 z && nat_le (flow_side t q) (head_side t z)) (least-in-parts p minor parts d q divided)
        ∙ ap (λ b. nat_lt 0 (left_at_least_at (2 ^ p) minor d q) && b)
        (low_test q (left_at_least_at (2 ^ p) minor d q))

    pub high_passes : (d q : ℕ) → passes_high t parts d q ≡ passes_high_at (2 ^ p) k minor d q
    high_passes d q =
        ap (λ z. nat_le z 0 || nat_le (head_side t z) (flow_side t q)) (most-in-parts p minor parts d q divided)
        ∙ ap (λ b. nat_le (left_at_most_at (2 ^ p) minor d q) 0 || b)
        (high_test q (left_at_most_at (2 ^ p) minor d q))

    pub down-is : (d : ℕ) → flow_down t parts d ≡ flow_down_at (2 ^ p) k minor d
    down-is d =
        ap (λ (test : ℕ → Bool). greatest test greatest_flow) (λ i q. low_passes (min d greatest_head) q i)

    pub up-is : (d : ℕ) → d ≤ greatest_head → covers_at (2 ^ p) k minor ≡ true
        → flow_up t parts d ≡ flow_up_at (2 ^ p) k minor d
    up-is zero near covers = refl
    up-is (suc d) near covers =
        whole.flow_up_found t parts d near
        ∙ ap (λ (test : ℕ → Bool). least test 1 (greatest_flow - 1)) (λ i q. high_passes (suc d) q i)
        ∙ sym (at.flow_up_found (2 ^ p) (pow_pos p) k minor d near covers)

-- ---- both directions of the flow

pub low-forward : (S : ℕ) (c : PowerCapacity) (d : ℤ) (m r : ℕ) → pos 0 ≤ℤ d → m ≡ unsigned_abs d
    → r ≡ flow_down_at S c.low c.minor m → pos r ≡ power_low_at S c d
low-forward S c (pos d) m r le e is = ap pos (is ∙ ap (λ n. flow_down_at S c.low c.minor n) e)
low-forward S c (negsuc d) m r le e is = absurd (omega (arith, ints, le))

pub low-reverse : (S : ℕ) (c : PowerCapacity) (d : ℤ) (m r : ℕ) → d <ℤ pos 0 → m ≡ unsigned_abs d
    → r ≡ flow_up_at S c.high c.minor m → neg_ℤ (pos r) ≡ power_low_at S c d
low-reverse S c (pos d) m r lt e is = absurd (omega (arith, ints, lt))
low-reverse S c (negsuc d) m r lt e is =
    ap (λ (n : ℕ). neg_ℤ (pos n)) (is ∙ ap (λ n. flow_up_at S c.high c.minor n) e)

pub high-forward : (S : ℕ) (c : PowerCapacity) (d : ℤ) (m r : ℕ) → pos 0 ≤ℤ d → m ≡ unsigned_abs d
    → r ≡ flow_up_at S c.high c.minor m → pos r ≡ power_high_at S c d
high-forward S c (pos d) m r le e is = ap pos (is ∙ ap (λ n. flow_up_at S c.high c.minor n) e)
high-forward S c (negsuc d) m r le e is = absurd (omega (arith, ints, le))

pub high-reverse : (S : ℕ) (c : PowerCapacity) (d : ℤ) (m r : ℕ) → d <ℤ pos 0 → m ≡ unsigned_abs d
    → r ≡ flow_down_at S c.low c.minor m → neg_ℤ (pos r) ≡ power_high_at S c d
high-reverse S c (pos d) m r lt e is = absurd (omega (arith, ints, lt))
high-reverse S c (negsuc d) m r lt e is =
    ap (λ (n : ℕ). neg_ℤ (pos n)) (is ∙ ap (λ n. flow_down_at S c.low c.minor n) e)
