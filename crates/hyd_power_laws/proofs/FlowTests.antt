-- The tests of flows: which pass goes on to lesser flows, or to greater ones, and to other heads.
use Rattle.std.proofs.Common.{◌≡◌, ℕ, zero, suc, ◌+◌, ◌-◌, ◌*◌, ◌/◌, ◌^◌, ◌<◌, ◌≤◌, ◌⊎◌, inl, inr, true, false}
use Rattle.std.proofs.Common.{nat_le, arith, min, refl}
use Rattle.std.proofs.Common.{le_refl, le_trans, mul-le-mul, mul-le-mul_right}
use Rattle.std.specs.Prelude.{Option, Some, None, nat_lt}
use Rattle.std.proofs.Math.Nat.{mul-le-mul_left, div-mul-le_self, le-div_iff_mul-le}
use Rattle.std.proofs.lemmas.Bool.{leb-true, le-leb, lt-leb, ltb-true, lt-ltb, and_parts, and_from, or_cases, or_left}
use Rattle.std.proofs.lemmas.Bool.{or_right, cases_lt}
use borrow.Author.Differences.{up, down}
use Rattle.hyd_num.specs.declared.binary.Scaled.{Scaled}
use Rattle.hyd_num.specs.declared.pairs.Pair.{Pair}
use Rattle.hyd_num.specs.BinaryNumbers.{numerator, denominator}
use Rattle.hyd_num.proofs.EndsInOrder.{denominator_positive}
use Rattle.hyd_spec_power_laws.specs.CutPowers.{value, IsNormal, cut_power, digits_of_1852, digits_of_1000}
use Rattle.hyd_spec_power_laws.specs.CutPowers.{least, in_63_digits}
use Rattle.hyd_spec_power_laws.specs.WholeFlows.{left_at_least, left_at_most, flow_side, head_side, driving, passes_low}
use Rattle.hyd_spec_power_laws.specs.WholeFlows.{passes_high, flow_down, flow_up, greatest_head, greatest_flow}
use Rattle.hyd_power_laws.proofs.CutNumbers.{product-cut, product-rises}
use Rattle.hyd_power_laws.proofs.CutPowers.{power-normal, power-rises}
use Rattle.hyd_power_laws.proofs.GreatestAndLeast.{greatest-rises, greatest-at, least-rises, least-at, least_is}
use Rattle.hyd_power_laws.proofs.WholeNumbers.{whole-cut, whole-rises}

-- ---- both sides rise

pub mantissa_normal : (k : Scaled) → IsNormal (record { mant = k.mant; exp = 0 })
mantissa_normal k = record { least = k.normal; short = k.short }

pub driving-normal : (k : Scaled) (z : ℕ) → 1 ≤ z → z < 2 ^ 128 → IsNormal (driving k z)
driving-normal k z some short =
    (product-cut (record { mant = k.mant; exp = 0 }) (cut_power (in_63_digits z) digits_of_1000) (mantissa_normal k)
    (power-normal (in_63_digits z) digits_of_1000 (whole-cut z some short).normal)).normal

driving-rises : (k : Scaled) (y z : ℕ) → 1 ≤ y → y ≤ z → z < 2 ^ 128 → value (driving k y) ≤ value (driving k z)
driving-rises k y z some le short =
    let a = whole-cut y some (omega (arith, le, short)) in
    let b = whole-cut z (omega (arith, some, le)) short in
    product-rises (record { mant = k.mant; exp = 0 }) (cut_power (in_63_digits y) digits_of_1000)
    (record { mant = k.mant; exp = 0 }) (cut_power (in_63_digits z) digits_of_1000) (mantissa_normal k)
    (power-normal (in_63_digits y) digits_of_1000 a.normal) (mantissa_normal k)
    (power-normal (in_63_digits z) digits_of_1000 b.normal) (le_refl _)
    (power-rises (in_63_digits y) (in_63_digits z) digits_of_1000 a.normal b.normal (whole-rises y z some le short))

pub head-rises : (k : Scaled) (y z : ℕ) → 1 ≤ y → y ≤ z → z < 2 ^ 128 → head_side k y ≤ head_side k z
head-rises k y z some le short = mul-le-mul_right (2 ^ up k.exp) (driving-rises k y z some le short)

pub flow-rises : (k : Scaled) (p q : ℕ) → 1 ≤ p → p ≤ q → q < 2 ^ 128 → flow_side k p ≤ flow_side k q
flow-rises k p q some le short =
    let a = whole-cut p some (omega (arith, le, short)) in
    let b = whole-cut q (omega (arith, some, le)) short in
    mul-le-mul_right (2 ^ (7176 + down k.exp))
    (power-rises (in_63_digits p) (in_63_digits q) digits_of_1852 a.normal b.normal (whole-rises p q some le short))

-- ---- what a minor loss leaves: less for greater flows, more of greater heads, and never more than the head

pub quotient_rises : (a b d : ℕ) → 0 < d → a ≤ b → a / d ≤ b / d
quotient_rises a b d above le =
    (le-div_iff_mul-le {x = a / d} {y = b} above).1 (le_trans (div-mul-le_self a d) le)

pub squares_rise : (n p q : ℕ) → p ≤ q → n * (p * p) * 2 ^ 60 ≤ n * (q * q) * 2 ^ 60
squares_rise n p q le = mul-le-mul_right (2 ^ 60) (mul-le-mul_left n (mul-le-mul le le))

pub left-least-falls : (minor : Option Pair) (d p q : ℕ) → p ≤ q → left_at_least minor d q ≤ left_at_least minor d p
left-least-falls None d p q le = le_refl _
left-least-falls (Some m) d p q le =
    let s = squares_rise (numerator m.hi) p q le in
    let l = quotient_rises (numerator m.hi * (p * p) * 2 ^ 60 + (denominator m.hi - 1))
    (numerator m.hi * (q * q) * 2 ^ 60 + (denominator m.hi - 1)) (denominator m.hi) (denominator_positive m.hi)
    (omega (arith, s)) in
    omega (arith, l)

pub left-most-falls : (minor : Option Pair) (d p q : ℕ) → p ≤ q → left_at_most minor d q ≤ left_at_most minor d p
left-most-falls None d p q le = le_refl _
left-most-falls (Some m) d p q le =
    let l = quotient_rises (numerator m.lo * (p * p) * 2 ^ 60) (numerator m.lo * (q * q) * 2 ^ 60) (denominator m.lo)
    (denominator_positive m.lo) (squares_rise (numerator m.lo) p q le) in
    omega (arith, l)

pub left-least-rises : (minor : Option Pair) (d e q : ℕ) → d ≤ e → left_at_least minor d q ≤ left_at_least minor e q
left-least-rises None d e q le = omega (arith, le)
left-least-rises (Some m) d e q le = omega (arith, le)

pub left-most-rises : (minor : Option Pair) (d e q : ℕ) → d ≤ e → left_at_most minor d q ≤ left_at_most minor e q
left-most-rises None d e q le = omega (arith, le)
left-most-rises (Some m) d e q le = omega (arith, le)

pub left-least-short : (minor : Option Pair) (d q : ℕ) → left_at_least minor d q ≤ d * 2 ^ 60
left-least-short None d q = le_refl _
left-least-short (Some m) d q = omega arith

pub left-most-short : (minor : Option Pair) (d q : ℕ) → left_at_most minor d q ≤ d * 2 ^ 60
left-most-short None d q = le_refl _
left-most-short (Some m) d q = omega arith

-- ---- what passes

pub record PassesLow (k : Scaled) (minor : Option Pair) (d q : ℕ) : Type 0 where
  pub left : 1 ≤ left_at_least minor d q
  pub within : flow_side k q ≤ head_side k (left_at_least minor d q)

pub low_parts : (k : Scaled) (minor : Option Pair) (d q : ℕ) → passes_low k minor d q ≡ true → PassesLow k minor d q
low_parts k minor d q pass =
    let p = and_parts (nat_lt 0 (left_at_least minor d q))
    (nat_le (flow_side k q) (head_side k (left_at_least minor d q))) pass in
    record { left = omega (arith, ltb-true _ _ p.0); within = leb-true _ _ p.1 }

pub low_from : (k : Scaled) (minor : Option Pair) (d q : ℕ) → PassesLow k minor d q → passes_low k minor d q ≡ true
low_from k minor d q p =
    and_from (nat_lt 0 (left_at_least minor d q)) (nat_le (flow_side k q) (head_side k (left_at_least minor d q)))
    (lt-ltb _ _ (omega (arith, p.left))) (le-leb _ _ p.within)

pub high_parts : (k : Scaled) (minor : Option Pair) (d q : ℕ) → passes_high k minor d q ≡ true
    → (left_at_most minor d q ≤ 0) ⊎ (head_side k (left_at_most minor d q) ≤ flow_side k q)
high_parts k minor d q pass = elim (or_cases (nat_le (left_at_most minor d q) 0)
    (nat_le (head_side k (left_at_most minor d q)) (flow_side k q)) pass) [
      | inl e ↦ inl (leb-true _ _ e)
      | inr e ↦ inr (leb-true _ _ e)
    ]

high_by_none : (k : Scaled) (minor : Option Pair) (d q : ℕ) → left_at_most minor d q ≤ 0
    → passes_high k minor d q ≡ true
high_by_none k minor d q none = or_left (nat_le (left_at_most minor d q) 0)
    (nat_le (head_side k (left_at_most minor d q)) (flow_side k q)) (le-leb _ _ none)

high_by_flow : (k : Scaled) (minor : Option Pair) (d q : ℕ) → head_side k (left_at_most minor d q) ≤ flow_side k q
    → passes_high k minor d q ≡ true
high_by_flow k minor d q le = or_right (nat_le (left_at_most minor d q) 0)
    (nat_le (head_side k (left_at_most minor d q)) (flow_side k q)) (le-leb _ _ le)

pub cases_none : (z : ℕ) → (z ≤ 0) ⊎ (1 ≤ z)
cases_none zero = inl (le_refl _)
cases_none (suc z) = inr (omega arith)

-- a lesser flow at a greater head
pub low-goes_on : (k : Scaled) (minor : Option Pair) (d e p q : ℕ) → e < 2 ^ 64 → q < 2 ^ 128 → d ≤ e → 1 ≤ p → p ≤ q
    → passes_low k minor d q ≡ true → passes_low k minor e p ≡ true
low-goes_on k minor d e p q near short more some fewer pass =
    let h = low_parts k minor d q pass in
    let a : left_at_least minor d q ≤ left_at_least minor d p = left-least-falls minor d p q fewer in
    let b : left_at_least minor d p ≤ left_at_least minor e p = left-least-rises minor d e p more in
    let c : left_at_least minor e p ≤ e * 2 ^ 60 = left-least-short minor e p in
    let l = flow-rises k p q some fewer short in
    let m = head-rises k (left_at_least minor d q) (left_at_least minor e p) h.left (le_trans a b)
    (omega (arith, c, near)) in
    low_from k minor e p (record { left = omega (arith, h.left, a, b); within = le_trans l (le_trans h.within m) })

-- a greater flow at a lesser head
pub high-goes_on : (k : Scaled) (minor : Option Pair) (d e p q : ℕ) → e < 2 ^ 64 → q < 2 ^ 128 → d ≤ e → 1 ≤ p → p ≤ q
    → passes_high k minor e p ≡ true → passes_high k minor d q ≡ true
high-goes_on k minor d e p q near short fewer some more pass =
    let a : left_at_most minor e q ≤ left_at_most minor e p = left-most-falls minor e p q more in
    let b : left_at_most minor d q ≤ left_at_most minor e q = left-most-rises minor d e q fewer in
    let c : left_at_most minor e p ≤ e * 2 ^ 60 = left-most-short minor e p in
    elim (high_parts k minor e p pass) [
      | inl none ↦ high_by_none k minor d q (le_trans b (le_trans a none))
      | inr le ↦ elim (cases_none (left_at_most minor d q)) [
        | inl none ↦ high_by_none k minor d q none
        | inr left ↦
            let l = flow-rises k p q some more short in
            let m = head-rises k (left_at_most minor d q) (left_at_most minor e p) left (le_trans b a)
            (omega (arith, c, near)) in
            high_by_flow k minor d q (le_trans m (le_trans le l))
      ]
    ]

-- ---- so the flows rise with the head

pub min_rises : (d e n : ℕ) → d ≤ e → min d n ≤ min e n
min_rises d e n le = omega (arith, le)

pub down-rises : (k : Scaled) (minor : Option Pair) (d e : ℕ) → d ≤ e → flow_down k minor d ≤ flow_down k minor e
down-rises k minor d e le =
    let l : min d greatest_head ≤ min e greatest_head = min_rises d e greatest_head le in
    greatest-rises (passes_low k minor (min d greatest_head)) (passes_low k minor (min e greatest_head)) greatest_flow
    (λ q some within pass. low-goes_on k minor (min d greatest_head) (min e greatest_head) q q (omega arith)
    (omega (arith, within)) l some (le_refl _) pass)

-- up to the greatest head
found-rises : (k : Scaled) (minor : Option Pair) (d e : ℕ) → e ≤ greatest_head → d ≤ e
    → least (passes_high k minor d) 1 (greatest_flow - 1) ≤ least (passes_high k minor e) 1 (greatest_flow - 1)
found-rises k minor d e short le =
    least-rises (passes_high k minor d) (passes_high k minor e) 1 (greatest_flow - 1)
    (λ q some within pass. high-goes_on k minor d e q q (omega (arith, short)) (omega (arith, within)) le some
    (le_refl _)
    pass)

pub flow_up_found : (k : Scaled) (minor : Option Pair) (d : ℕ) → suc d ≤ greatest_head
    → flow_up k minor (suc d) ≡ least (passes_high k minor (suc d)) 1 (greatest_flow - 1)
flow_up_found k minor d le = rw (le-leb (suc d) greatest_head le) refl

pub flow_up_beyond : (k : Scaled) (minor : Option Pair) (d : ℕ) → greatest_head < suc d
    → flow_up k minor (suc d) ≡ suc d * greatest_flow
flow_up_beyond k minor d lt = rw (lt-leb (suc d) greatest_head lt) refl

pub up-rises : (k : Scaled) (minor : Option Pair) (d e : ℕ) → d ≤ e → flow_up k minor d ≤ flow_up k minor e
up-rises k minor zero e le = omega arith
up-rises k minor (suc d) zero le = absurd (omega (arith, le))
up-rises k minor (suc d) (suc e) le = elim (cases_lt greatest_head (suc e)) [
  | inl beyond ↦ elim (cases_lt greatest_head (suc d)) [
    | inl far ↦ rw (flow_up_beyond k minor d far, flow_up_beyond k minor e beyond) (mul-le-mul_right greatest_flow le)
    | inr near ↦
        let w : least (passes_high k minor (suc d)) 1 (greatest_flow - 1) ≤ 1 + (greatest_flow - 1) =
        (least_is (passes_high k minor (suc d)) 1 (greatest_flow - 1)).within in
        rw (flow_up_found k minor d near, flow_up_beyond k minor e beyond) (omega (arith, w))
  ]
  | inr short ↦
      rw (flow_up_found k minor d (omega (arith, le, short)), flow_up_found k minor e short)
      (found-rises k minor (suc d) (suc e) short le)
]

-- ---- what a search finds

pub down-found : (k : Scaled) (minor : Option Pair) (d r : ℕ) → d ≤ greatest_head → r ≤ greatest_flow
    → (1 ≤ r → passes_low k minor d r ≡ true) → (r < greatest_flow → passes_low k minor d (r + 1) ≡ false)
    → r ≡ flow_down k minor d
down-found k minor d r near within pass fail =
    let e : min d greatest_head ≡ d = omega (arith, near) in
    rw e (greatest-at (passes_low k minor d) greatest_flow r
    (λ p q some le short h. low-goes_on k minor d d p q (omega (arith, near)) (omega (arith, short))
    (le_refl _) some le h)
    within pass fail)

pub up-found : (k : Scaled) (minor : Option Pair) (d s : ℕ) → 1 ≤ d → d ≤ greatest_head → s + 1 ≤ greatest_flow
    → (1 ≤ s → passes_high k minor d s ≡ false) → (s + 1 < greatest_flow → passes_high k minor d (s + 1) ≡ true)
    → s + 1 ≡ flow_up k minor d
up-found k minor zero s some near within fail pass = absurd (omega (arith, some))
up-found k minor (suc d) s some near within fail pass =
    rw (flow_up_found k minor d near) (least-at (passes_high k minor (suc d)) 1 (greatest_flow - 1) s
    (λ p q low le short h. high-goes_on k minor (suc d) (suc d) p q (omega (arith, near)) (omega (arith, short))
    (le_refl _)
    low le h)
    (omega arith) (omega (arith, within)) fail (λ lt. pass (omega (arith, lt))))
