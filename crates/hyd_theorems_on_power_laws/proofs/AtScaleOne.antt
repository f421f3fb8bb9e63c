-- At scale 1 the enclosing functions of a scale are those of whole ticks.
use Rattle.std.proofs.Common.{◌≡◌, ℕ, zero, suc, ◌-◌, ◌*◌, ◌^◌, Bool, true, false, ℤ, pos, negsuc, neg_ℤ, refl, ap}
use Rattle.std.proofs.Common.{◌∙◌, sym, inl, inr, arith, pow-suc, min, mul-one}
use Rattle.std.specs.Prelude.{Option, Some, None, ◌/◌, ◌+◌, ◌&&◌, ◌||◌, nat_le, nat_lt}
use Rattle.std.proofs.Math.Nat.{pow-zero}
use Rattle.std.proofs.lemmas.Bool.{cases_lt, lt-leb}
use Rattle.hyd_num.specs.declared.binary.Scaled.{Scaled}
use Rattle.hyd_num.specs.declared.pairs.Pair.{Pair}
use Rattle.hyd_num.specs.BinaryNumbers.{numerator, denominator}
use Rattle.hyd_spec_power_laws.specs.declared.power_capacities.PowerCapacity.{PowerCapacity}
use Rattle.hyd_spec_power_laws.specs.CutPowers.{greatest, least}
use Rattle.hyd_spec_power_laws.specs.EnclosingFlows.{power_low, power_high}
use Rattle.hyd_spec_power_laws.specs.WholeFlows.{left_at_least, left_at_most, flow_side, head_side, passes_low}
use Rattle.hyd_spec_power_laws.specs.WholeFlows.{passes_high, flow_down, flow_up, greatest_head, greatest_flow, Covers}
use Rattle.hyd_spec_pipe_laws.specs.FlowsAtScale.{left_at_least_at, left_at_most_at, head_side_at, passes_low_at}
use Rattle.hyd_spec_pipe_laws.specs.FlowsAtScale.{passes_high_at, covers_at, flow_down_at, flow_up_at, power_low_at}
use Rattle.hyd_spec_pipe_laws.specs.FlowsAtScale.{power_high_at}
use Rattle.hyd_power_laws.proofs.FlowTests as whole
use Rattle.hyd_theorems_on_power_laws.proofs.TestsAtScale as at

one-power : (n : ℕ) → 1 ^ n ≡ 1
one-power zero = pow-zero 1
one-power (suc n) = pow-suc 1 n ∙ ap (λ x. x * 1) (one-power n)

head-once : (n x : ℕ) → 1 ^ n * x ≡ x
head-once n x = ap (λ p. p * x) (one-power n) ∙ omega arith

least-once : (minor : Option Pair) (d q : ℕ) → left_at_least_at 1 minor d q ≡ left_at_least minor d q
least-once None d q = refl
least-once (Some m) d q =
    ap (λ e. d * 2 ^ 60 - (numerator m.hi * (q * q) * 2 ^ 60 + (e - 1)) / e) (mul-one (denominator m.hi))

most-once : (minor : Option Pair) (d q : ℕ) → left_at_most_at 1 minor d q ≡ left_at_most minor d q
most-once None d q = refl
most-once (Some m) d q =
    ap (λ e. d * 2 ^ 60 - numerator m.lo * (q * q) * 2 ^ 60 / e) (mul-one (denominator m.lo))

low-once : (k : Scaled) (minor : Option Pair) (d q : ℕ) → passes_low_at 1 k minor d q ≡ passes_low k minor d q
low-once k minor d q =
    ap (λ z. nat_lt 0 z && nat_le (flow_side k q) (head_side_at 1 k z)) (least-once minor d q)
    ∙ ap (λ h. nat_lt 0 (left_at_least minor d q) && nat_le (flow_side k q) h)
    (head-once 852 (head_side k (left_at_least minor d q)))

high-once : (k : Scaled) (minor : Option Pair) (d q : ℕ) → passes_high_at 1 k minor d q ≡ passes_high k minor d q
high-once k minor d q =
    ap (λ z. nat_le z 0 || nat_le (head_side_at 1 k z) (flow_side k q)) (most-once minor d q)
    ∙ ap (λ h. nat_le (left_at_most minor d q) 0 || nat_le h (flow_side k q))
    (head-once 852 (head_side k (left_at_most minor d q)))

down-once : (k : Scaled) (minor : Option Pair) (d : ℕ) → flow_down_at 1 k minor d ≡ flow_down k minor d
down-once k minor d =
    ap (λ (test : ℕ → Bool). greatest test greatest_flow) (λ i q. low-once k minor (min d greatest_head) q i)

up-once : (k : Scaled) (minor : Option Pair) (d : ℕ) → Covers k minor → flow_up_at 1 k minor d ≡ flow_up k minor d
up-once k minor zero covers = refl
up-once k minor (suc d) covers = elim (cases_lt greatest_head (suc d)) [
  | inl beyond ↦
      at.flow_up_beyond 1 (omega arith) k minor d (far (lt-leb (suc d) greatest_head beyond))
      ∙ (let e : suc d * (1 * greatest_flow) ≡ suc d * greatest_flow = omega arith in e)
      ∙ sym (whole.flow_up_beyond k minor d beyond)
  | inr near ↦
      at.flow_up_found 1 (omega arith) k minor d near (high-once k minor greatest_head greatest_flow ∙ covers)
      ∙ ap (λ (test : ℕ → Bool). least test 1 (greatest_flow - 1)) (λ i q. high-once k minor (suc d) q i)
      ∙ sym (whole.flow_up_found k minor d near)
]
  where
    far : nat_le (suc d) greatest_head ≡ false → (nat_le (suc d) greatest_head && covers_at 1 k minor) ≡ false
    far e = ap (λ b. b && covers_at 1 k minor) e

pub low-at-one : (c : PowerCapacity) (d : ℤ) → power_low_at 1 c d ≡ power_low c d
low-at-one c (pos d) = ap pos (down-once c.low c.minor d)
low-at-one c (negsuc d) = ap (λ (n : ℕ). neg_ℤ (pos n)) (up-once c.high c.minor (suc d) c.covers)

pub high-at-one : (c : PowerCapacity) (d : ℤ) → power_high_at 1 c d ≡ power_high c d
high-at-one c (pos d) = ap pos (up-once c.high c.minor d c.covers)
high-at-one c (negsuc d) = ap (λ (n : ℕ). neg_ℤ (pos n)) (down-once c.low c.minor (suc d))

-- a capacity in whole ticks is always in range
pub covers-at-one : (c : PowerCapacity) → covers_at 1 c.high c.minor ≡ true
covers-at-one c = high-once c.high c.minor greatest_head greatest_flow ∙ c.covers
