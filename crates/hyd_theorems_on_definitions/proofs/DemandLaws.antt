-- A demand that depends on the pressure is a law, and its enclosing functions enclose it.
use Rattle.std.proofs.Common.{◌≡◌, ℕ, ◌<◌, ℤ, pos, ◌+ℤ◌, ◌-ℤ◌, ◌*ℤ◌, ◌≤ℤ◌, ◌<ℤ◌, negsuc, Bool, true, false, refl, subst}
use Rattle.std.proofs.Common.{sym, arith, inl, inr}
use Rattle.std.specs.Prelude.{MatchBool, int_le, if◌then◌else◌}
use Rattle.std.specs.Int.{int_min}
use Rattle.std.proofs.lemmas.Int.{ints}
use Rattle.std.proofs.lemmas.Bool.{MatchBool-at_true, MatchBool-at_false, cases_Bool, cond_both}
use Rattle.hyd_num.proofs.Integers.{times_rises}
use Rattle.hyd_num.specs.Rational.{Rational, floor, ceiling, negated, is_at_most}
use Rattle.hyd_spec.specs.ProgramTypes.{Capacity, Origin, Decimal, PressureDemand}
use Rattle.hyd_spec.specs.DemandsHeadsAndPumpLifts.{pressure_value}
use Rattle.hyd_spec.specs.Law.{Relation, lifted, odd_at_least, odd_at_most, loss_at_most, loss_at_least}
use Rattle.hyd_spec.specs.Law.{pressure_resistance, flow_at_least, flow_at_most, QuadraticLaw}
use Rattle.hyd_spec.specs.Outflow.{pressure_at}
use Rattle.hyd_spec_certificates.specs.EnclosingFunctions.{Driven, demand_low, demand_high, quadratic_low}
use Rattle.hyd_spec_certificates.specs.EnclosingFunctions.{quadratic_high}
use Rattle.hyd_lemmas.proofs.Integers.{floor_low, ceiling_high, floor_greatest, ceiling_least, floor_at_most_ceiling}
use Rattle.hyd_lemmas.proofs.Integers.{min_left, min_right, min_is}
use Rattle.hyd_theorems_on_definitions.specs.SoundLawsAndGrids.{IsLaw, IsSoundCapacity}
use Rattle.hyd_theorems_on_definitions.specs.PressureDrivenDemand.{steps_at_least, steps_at_most}
use Rattle.hyd_lemmas.proofs.BooleanTests.{le-yes, le-no}
use Rattle.hyd_theorems_on_definitions.proofs.LinkLaws.{IsLaw-lifted}
use Rattle.hyd_theorems_on_definitions.proofs.EachLaw.{IsLaw-quad}
use Rattle.hyd_theorems_on_definitions.proofs.Outflows.{high-positive, under, over_it, not_under, not_over}
use Rattle.hyd_theorems_on_definitions.proofs.Outflows.{twice_negated, begins_at, ends_at, pressure-above}
use Rattle.hyd_theorems_on_definitions.proofs.OutflowsRise.{AreRising-demand}

matched : (b : Bool) (P Q : Type 0) → (b ≡ true → P) → (b ≡ false → Q) → MatchBool b P Q
matched true P Q first second = first refl
matched false P Q first second = second refl

-- what lies between the two pressures, and what both of its relations say there
record Parts (least most : Rational) (D : ℤ) (c : Capacity) (A B : Relation) : Type 0 where
  some_least : 0 < least.den
  some_most : 0 < most.den
  positive : pos 0 ≤ℤ D
  law : IsLaw A B (λ d. quadratic_low c (d +ℤ floor (negated least)))
      (λ d. quadratic_high c (d +ℤ ceiling (negated least)))
  begins : (S : ℕ) (p : ℤ) → (least.num *ℤ pos S) <ℤ (p *ℤ pos least.den) → A S p (pos 0)
  ends : (S : ℕ) (p : ℤ) → 0 < S → (p *ℤ pos most.den) <ℤ (most.num *ℤ pos S) → B S p (pos S *ℤ D)

below : (least most : Rational) (D : ℤ) (c : Capacity) (A B : Relation) → Parts least most D c A B → (S : ℕ) (d p : ℤ)
    → 0 < S → (pos S *ℤ d) ≤ℤ p
    → steps_at_least least most D A S p (pos S *ℤ demand_low (Driven D c least most) d)
below least most D c A B parts S d p some le =
    let by_parts : (P : ℤ → Type 0) → (d ≤ℤ ceiling least → P (pos 0)) → (ceiling least <ℤ d → ceiling most ≤ℤ d → P D)
    → (ceiling least <ℤ d → P (int_min D (quadratic_low c (d -ℤ ceiling least))))
    → P (demand_low (Driven D c least most) d) =
    (λ P none whole part. cond_both (int_le d (ceiling least)) (pos 0) (if int_le (ceiling most) d then D
    else int_min D (quadratic_low c (d -ℤ ceiling least))) P
    (λ e. none (le-yes d (ceiling least) e))
    (λ e. cond_both (int_le (ceiling most) d) D (int_min D (quadratic_low c (d -ℤ ceiling least))) P
    (λ g. whole (le-no d (ceiling least) e) (le-yes (ceiling most) d g)) (λ g. part (le-no d (ceiling least) e)))) in
    matched (is_at_most (pressure_at S p) least) _ _
    (λ held. let l : demand_low (Driven D c least most) d ≤ℤ pos 0 = by_parts (λ z. z ≤ℤ pos 0)
    (λ h. omega (arith, ints)) (λ h g. absurd (early h held)) (λ h. absurd (early h held)) in
    let t = times_rises S (demand_low (Driven D c least most) d) (pos 0) l in omega (arith, ints, t))
    (λ fails. matched (is_at_most most (pressure_at S p)) _ _
    (λ held. times_rises S (demand_low (Driven D c least most) d) D
    (by_parts (λ z. z ≤ℤ D) (λ h. parts.positive) (λ h g. omega (arith, ints))
    (λ h. min_left D (quadratic_low c (d -ℤ ceiling least)))))
    (λ under_it. by_parts (λ z. A S p (pos S *ℤ z))
    (λ h. parts.law.downward S p (pos 0) (pos S *ℤ pos 0) some (omega (arith, ints))
    (parts.begins S p (le-no (p *ℤ pos least.den) (least.num *ℤ pos S) fails)))
    (λ h g. absurd (not_over S d p most le (le-no (most.num *ℤ pos S) (p *ℤ pos most.den) under_it)
    (let a = ceiling_high most parts.some_most in let b = times_rises most.den (ceiling most) d g in
    omega (arith, ints, a, b))))
    (λ h. let e : d +ℤ floor (negated least) ≡ d -ℤ ceiling least = omega (arith, ints) in
    parts.law.downward S p (pos S *ℤ quadratic_low c (d -ℤ ceiling least))
    (pos S *ℤ int_min D (quadratic_low c (d -ℤ ceiling least))) some
    (times_rises S (int_min D (quadratic_low c (d -ℤ ceiling least))) (quadratic_low c (d -ℤ ceiling least))
    (min_right D (quadratic_low c (d -ℤ ceiling least))))
    (subst (λ (z : ℤ). A S p (pos S *ℤ quadratic_low c z)) e (parts.law.encloses_below S d p some le)))))
  where
    early : ceiling least <ℤ d → is_at_most (pressure_at S p) least ≡ true → ⊥
    early h held =
        let b = floor_greatest least d parts.some_least (under S d p least some le
        (le-yes (p *ℤ pos least.den) (least.num *ℤ pos S) held)) in
        let f = floor_at_most_ceiling least parts.some_least in
        let r : ⊥ = omega (arith, ints, h, b, f) in r

above : (least most : Rational) (D : ℤ) (c : Capacity) (A B : Relation) → Parts least most D c A B → (S : ℕ) (d p : ℤ)
    → 0 < S → p ≤ℤ (pos S *ℤ d)
    → steps_at_most least most D B S p (pos S *ℤ demand_high (Driven D c least most) d)
above least most D c A B parts S d p some le =
    let by_parts : (P : ℤ → Type 0) → (d ≤ℤ floor least → P (pos 0)) → (floor least <ℤ d → P D)
    → (floor least <ℤ d → d <ℤ floor most → P (quadratic_high c (d -ℤ floor least)))
    → P (demand_high (Driven D c least most) d) =
    (λ P none whole part. cond_both (int_le d (floor least)) (pos 0) (if int_le (floor most) d then D
    else int_min D (quadratic_high c (d -ℤ floor least))) P
    (λ e. none (le-yes d (floor least) e))
    (λ e. cond_both (int_le (floor most) d) D (int_min D (quadratic_high c (d -ℤ floor least))) P
    (λ g. whole (le-no d (floor least) e))
    (λ g. min_is P D (quadratic_high c (d -ℤ floor least)) (λ h. whole (le-no d (floor least) e))
    (λ h. part (le-no d (floor least) e) (le-no (floor most) d g))))) in
    matched (is_at_most (pressure_at S p) least) _ _
    (λ held. let l : pos 0 ≤ℤ demand_high (Driven D c least most) d =
    by_parts (λ z. pos 0 ≤ℤ z) (λ h. omega (arith, ints)) (λ h. parts.positive)
    (λ h g. high-positive c (d -ℤ floor least) (omega (arith, ints, h))) in
    let t = times_rises S (pos 0) (demand_high (Driven D c least most) d) l in omega (arith, ints, t))
    (λ fails. matched (is_at_most most (pressure_at S p)) _ _
    (λ held. times_rises S D (demand_high (Driven D c least most) d)
    (by_parts (λ z. D ≤ℤ z) (λ h. absurd (late h fails)) (λ h. omega (arith, ints)) (λ h g. absurd (full g held))))
    (λ under_it. by_parts (λ z. B S p (pos S *ℤ z))
    (λ h. absurd (late h fails))
    (λ h. parts.ends S p some (le-no (most.num *ℤ pos S) (p *ℤ pos most.den) under_it))
    (λ h g. let t = twice_negated least in let e : d +ℤ ceiling (negated least) ≡ d -ℤ floor least =
    omega (arith, ints, t) in
    subst (λ (z : ℤ). B S p (pos S *ℤ quadratic_high c z)) e (parts.law.encloses_above S d p some le))))
  where
    late : d ≤ℤ floor least → is_at_most (pressure_at S p) least ≡ false → ⊥
    late h fails = not_under S d p least le (le-no (p *ℤ pos least.den) (least.num *ℤ pos S) fails)
        (let a = floor_low least parts.some_least in let b = times_rises least.den d (floor least) h in
        omega (arith, ints, a, b))

    full : d <ℤ floor most → is_at_most most (pressure_at S p) ≡ true → ⊥
    full g held =
        let b = ceiling_least most d parts.some_most (over_it S d p most some le
        (le-yes (most.num *ℤ pos S) (p *ℤ pos most.den) held)) in
        let f = floor_at_most_ceiling most parts.some_most in
        let r : ⊥ = omega (arith, ints, g, b, f) in r

IsLaw-steps : (least most : Rational) (D : ℤ) (c : Capacity) (A B : Relation) → Parts least most D c A B
    → IsLaw (steps_at_least least most D A) (steps_at_most least most D B) (demand_low (Driven D c least most))
    (demand_high (Driven D c least most))
IsLaw-steps least most D c A B parts =
    let rising = AreRising-demand (Driven D c least most) (parts.positive, (parts.some_least, parts.some_most)) in
    record {
      low_rises = rising.low_rises;
      high_rises = rising.high_rises;
      ordered = rising.ordered;
      encloses_below = below least most D c A B parts;
      encloses_above = above least most D c A B parts;
      consistent = λ S x a b some p q. elim (cases_Bool (is_at_most (pressure_at S x) least)) [
        | inl held ↦ let l = MatchBool-at_true (a ≤ℤ pos 0) _ held p in
            let m = MatchBool-at_true (pos 0 ≤ℤ b) _ held q in omega (arith, ints, l, m)
        | inr fails ↦ let p' = MatchBool-at_false (a ≤ℤ pos 0) _ fails p in
            let q' = MatchBool-at_false (pos 0 ≤ℤ b) _ fails q in
            elim (cases_Bool (is_at_most most (pressure_at S x))) [
              | inl held ↦ let l = MatchBool-at_true (a ≤ℤ (pos S *ℤ D)) _ held p' in
                  let m = MatchBool-at_true ((pos S *ℤ D) ≤ℤ b) _ held q' in omega (arith, ints, l, m)
              | inr under_it ↦ parts.law.consistent S x a b some (MatchBool-at_false (a ≤ℤ (pos S *ℤ D)) (A S x a)
                  under_it p') (MatchBool-at_false ((pos S *ℤ D) ≤ℤ b) (B S x b) under_it q')
            ]
      ];
      downward = λ S x a b some le p. matched (is_at_most (pressure_at S x) least) _ _
          (λ held. let l = MatchBool-at_true (a ≤ℤ pos 0) _ held p in omega (arith, ints, l, le))
          (λ fails. let p' = MatchBool-at_false (a ≤ℤ pos 0) _ fails p in
          matched (is_at_most most (pressure_at S x)) _ _
          (λ held. let l = MatchBool-at_true (a ≤ℤ (pos S *ℤ D)) _ held p' in omega (arith, ints, l, le))
          (λ under_it. parts.law.downward S x a b some le (MatchBool-at_false (a ≤ℤ (pos S *ℤ D)) (A S x a) under_it
          p')));
      upward = λ S x a b some le q. matched (is_at_most (pressure_at S x) least) _ _
          (λ held. let l = MatchBool-at_true (pos 0 ≤ℤ a) _ held q in omega (arith, ints, l, le))
          (λ fails. let q' = MatchBool-at_false (pos 0 ≤ℤ a) _ fails q in
          matched (is_at_most most (pressure_at S x)) _ _
          (λ held. let l = MatchBool-at_true ((pos S *ℤ D) ≤ℤ a) _ held q' in omega (arith, ints, l, le))
          (λ under_it. parts.law.upward S x a b some le (MatchBool-at_false ((pos S *ℤ D) ≤ℤ a) (B S x a) under_it
          q')));
    }

-- a demand of a junction between two pressures of the file
driven-parts : (n : ℕ) (c : Capacity) (minimum required : Decimal) (us : Bool)
    → c.origin ≡ PressureDemand (pos n) minimum required us → IsSoundCapacity c
    → Parts (pressure_value us minimum) (pressure_value us required) (pos n) c
    (lifted (negated (pressure_value us minimum)) (flow_at_least (QuadraticLaw c)))
    (lifted (negated (pressure_value us minimum)) (flow_at_most (QuadraticLaw c)))
driven-parts n c minimum required us origin sound = record {
  some_least = pressure-above us;
  some_most = pressure-above us;
  positive = omega (arith, ints);
  law = IsLaw-lifted (negated (pressure_value us minimum)) (flow_at_least (QuadraticLaw c))
      (flow_at_most (QuadraticLaw c)) (quadratic_low c) (quadratic_high c) (pressure-above us) (IsLaw-quad c sound);
  begins = λ S p at. subst (λ (o : Origin). lifted (negated (pressure_value us minimum))
      (odd_at_least (loss_at_most o) (loss_at_least o)) S p (pos 0)) (sym origin)
      (begins_at (pressure_resistance (pos n) minimum required us) S (pressure_value us minimum) p at);
  ends = λ S p some at. subst (λ (o : Origin). lifted (negated (pressure_value us minimum))
      (odd_at_most (loss_at_most o) (loss_at_least o)) S p (pos S *ℤ pos n)) (sym origin)
      (ends_at us minimum required n S p at);
}

natural : (D : ℤ) → pos 1 ≤ℤ D → (n : ℕ) × (D ≡ pos n)
natural (pos n) some = (n, refl)
natural (negsuc n) some = absurd (omega (arith, ints, some))

pub IsLaw-driven : (D : ℤ) (c : Capacity) (minimum required : Decimal) (us : Bool) → pos 1 ≤ℤ D
    → c.origin ≡ PressureDemand D minimum required us → IsSoundCapacity c
    → IsLaw (steps_at_least (pressure_value us minimum) (pressure_value us required) D
    (lifted (negated (pressure_value us minimum)) (flow_at_least (QuadraticLaw c))))
    (steps_at_most (pressure_value us minimum) (pressure_value us required) D
    (lifted (negated (pressure_value us minimum)) (flow_at_most (QuadraticLaw c))))
    (demand_low (Driven D c (pressure_value us minimum) (pressure_value us required)))
    (demand_high (Driven D c (pressure_value us minimum) (pressure_value us required)))
IsLaw-driven D c minimum required us some = driven (natural D some)
  where
    driven : (n : ℕ) × (D ≡ pos n) → c.origin ≡ PressureDemand D minimum required us → IsSoundCapacity c
        → IsLaw (steps_at_least (pressure_value us minimum) (pressure_value us required) D
        (lifted (negated (pressure_value us minimum)) (flow_at_least (QuadraticLaw c))))
        (steps_at_most (pressure_value us minimum) (pressure_value us required) D
        (lifted (negated (pressure_value us minimum)) (flow_at_most (QuadraticLaw c))))
        (demand_low (Driven D c (pressure_value us minimum) (pressure_value us required)))
        (demand_high (Driven D c (pressure_value us minimum) (pressure_value us required)))
    driven (n, e) = subst (λ (z : ℤ). c.origin ≡ PressureDemand z minimum required us → IsSoundCapacity c
        → IsLaw (steps_at_least (pressure_value us minimum) (pressure_value us required) z
        (lifted (negated (pressure_value us minimum)) (flow_at_least (QuadraticLaw c))))
        (steps_at_most (pressure_value us minimum) (pressure_value us required) z
        (lifted (negated (pressure_value us minimum)) (flow_at_most (QuadraticLaw c))))
        (demand_low (Driven z c (pressure_value us minimum) (pressure_value us required)))
        (demand_high (Driven z c (pressure_value us minimum) (pressure_value us required))))
        (sym e) (λ origin sound. IsLaw-steps (pressure_value us minimum) (pressure_value us required) (pos n) c _ _
        (driven-parts n c minimum required us origin sound))

-- a fixed demand
pub IsLaw-fixed : (D : ℤ) → IsLaw (λ S x a. a ≤ℤ (pos S *ℤ D)) (λ S x a. (pos S *ℤ D) ≤ℤ a) (λ d. D) (λ d. D)
IsLaw-fixed D = record {
  low_rises = λ c d le. omega (arith, ints);
  high_rises = λ c d le. omega (arith, ints);
  ordered = λ d. omega (arith, ints);
  encloses_below = λ S d x some le. omega (arith, ints);
  encloses_above = λ S d x some le. omega (arith, ints);
  consistent = λ S x a b some p q. omega (arith, ints, p, q);
  downward = λ S x a b some le p. omega (arith, ints, le, p);
  upward = λ S x a b some le q. omega (arith, ints, le, q);
}
