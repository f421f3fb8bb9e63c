-- What a search finds is the flow that is sought.
use Rattle.std.proofs.Common.{◌≡◌, ℕ, zero, suc, ◌+◌, ◌≤◌, inl, inr, true, false, sym, ◌∙◌, refl, arith, le_refl, min}
use Rattle.std.proofs.Common.{subst}
use Rattle.std.specs.Prelude.{Option, not}
use Rattle.std.proofs.lemmas.Bool.{cases_eq, not-true, not-false, both_ways, cases_lt}
use Rattle.hyd_num.specs.declared.binary.Scaled.{Scaled}
use Rattle.hyd_num.specs.declared.pairs.Pair.{Pair}
use Rattle.hyd_spec_power_laws.specs.WholeFlows.{passes_low, passes_high, flow_down, flow_up, Covers, greatest_head}
use Rattle.hyd_spec_power_laws.specs.WholeFlows.{greatest_flow}
use Rattle.hyd_power_laws.specs.declared.flow_tests.FlowTest.{FlowTest}
use Rattle.hyd_power_laws.specs.declared.flow_tests.End.{End}
use Rattle.hyd_power_laws.specs.declared.flow_tests.End.TheVariants.{Low, High}
use Rattle.hyd_power_laws.specs.FlowsWithin.{is_within}
use Rattle.hyd_power_laws.specs.Brackets.{IsBracket, holds_at}
use Rattle.hyd_power_laws.proofs.GreatestAndLeast.{greatest_is}
use Rattle.hyd_power_laws.proofs.FlowTests.{low_parts, left-least-short, high-goes_on, down-found, up-found}

-- the test, by what it is made of
pub record IsTestOf (t : FlowTest) (end : End) (k : Scaled) (minor : Option Pair) (d : ℕ) : Type 0 where
  pub end_is : t.end ≡ end
  pub constant : t.constant ≡ k
  pub minor_is : t.minor ≡ minor
  pub head : t.head ≡ d

holds_is : (t : FlowTest) (end : End) (k : Scaled) (minor : Option Pair) (d q : ℕ) → IsTestOf t end k minor d
    → holds_at t q ≡ is_within end k minor d q
holds_is t end k minor d q is = rw (is.end_is, is.constant, is.minor_is, is.head) refl

pub found_down : (t : FlowTest) (k : Scaled) (minor : Option Pair) (d r : ℕ) → IsTestOf t Low k minor d
    → d ≤ greatest_head
    → IsBracket t r (r + 1) → r ≡ flow_down k minor d
found_down t k minor d r is near b = down-found k minor d r near (omega (arith, b.most))
    (λ some. sym (holds_is t Low k minor d r is) ∙ b.holds some)
    (λ lt. sym (holds_is t Low k minor d (r + 1) is) ∙ b.fails (omega (arith, lt)))

-- the greatest flow doesn't lose less than the head
pub found_short : (t : FlowTest) (k : Scaled) (minor : Option Pair) (d s : ℕ) → IsTestOf t High k minor d → 1 ≤ d
    → d ≤ greatest_head
    → Covers k minor → IsBracket t s (s + 1) → s + 1 ≤ greatest_flow
found_short t k minor d s is some near covers b = elim (cases_lt s greatest_flow) [
  | inl lt ↦ omega (arith, lt)
  | inr ge ↦ absurd (
      let e : s ≡ greatest_flow = omega (arith, ge, b.most) in
      let p : passes_high k minor d greatest_flow ≡ true = high-goes_on k minor d greatest_head greatest_flow
      greatest_flow
      (omega arith) (omega arith) near (omega arith) (le_refl _) covers in
      let n : not (passes_high k minor d s) ≡ true = sym (holds_is t High k minor d s is)
      ∙ b.holds (omega (arith, e)) in
      let f : passes_high k minor d s ≡ false = not-true (passes_high k minor d s) n in
      both_ways (passes_high k minor d greatest_flow)
      (subst (λ (q : ℕ). passes_high k minor d q ≡ false) e f) p)
]

pub found_up : (t : FlowTest) (k : Scaled) (minor : Option Pair) (d s : ℕ) → IsTestOf t High k minor d → 1 ≤ d
    → d ≤ greatest_head → Covers k minor → IsBracket t s (s + 1) → s + 1 ≡ flow_up k minor d
found_up t k minor d s is some near covers b =
    up-found k minor d s some near (found_short t k minor d s is some near covers b)
    (λ above. not-true (passes_high k minor d s) (sym (holds_is t High k minor d s is) ∙ b.holds above))
    (λ lt. not-false (passes_high k minor d (s + 1)) (sym (holds_is t High k minor d (s + 1) is)
    ∙ b.fails (omega (arith, lt))))

-- no head, no flow
pub none_down : (k : Scaled) (minor : Option Pair) (d : ℕ) → d ≡ 0 → 0 ≡ flow_down k minor d
none_down k minor d z =
    let g = greatest_is (passes_low k minor (min d greatest_head)) greatest_flow in
    elim (cases_eq (flow_down k minor d) 0) [
      | inl e ↦ sym e
      | inr ne ↦ absurd (
          let p = low_parts k minor (min d greatest_head) (flow_down k minor d) (g.passes (omega (arith, ne))) in
          let l = left-least-short minor (min d greatest_head) (flow_down k minor d) in
          omega (arith, p.left, l, z))
    ]

pub none_up : (k : Scaled) (minor : Option Pair) (d : ℕ) → d ≡ 0 → 0 ≡ flow_up k minor d
none_up k minor zero z = refl
none_up k minor (suc d) z = absurd (omega (arith, z))
