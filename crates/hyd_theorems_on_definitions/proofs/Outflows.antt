-- Demand and emitter flows of an assignment against those of a vector.
use Rattle.std.proofs.Common.{◌≡◌, ℕ, ◌*◌, ◌^◌, ◌<◌, ◌≤◌, ℤ, pos, negsuc, ◌+ℤ◌, ◌-ℤ◌, ◌*ℤ◌, ◌≤ℤ◌, ◌<ℤ◌, neg_ℤ, refl}
use Rattle.std.proofs.Common.{sym, ap, subst, arith, Bool, true, false, inl, inr}
use Rattle.std.specs.Prelude.{Option, Some, None, MatchBool, MatchOption, int_le, unsigned_abs, if◌then◌else◌}
use Rattle.std.specs.Option.{IfSome}
use Rattle.std.specs.Int.{int_min}
use Rattle.std.proofs.lemmas.Int.{ints}
use Rattle.std.proofs.lemmas.Bool.{MatchBool-at_true, MatchBool-at_false, cases_Bool, cond_both}
use Rattle.hyd_num.proofs.Integers.{times_minus, times_rises, times_reflects, times_neg}
use Rattle.hyd_num.specs.Rational.{Rational, floor, ceiling, negated, is_at_most}
use Rattle.hyd_spec.specs.ProgramTypes.{Project, Junction, Capacity, Decimal, Origin}
use Rattle.hyd_spec.specs.Scale.{at_scale}
use Rattle.hyd_spec.specs.DemandsHeadsAndPumpLifts.{is_us, pressure_value, minimum_pressure, required_pressure}
use Rattle.hyd_spec.specs.Law.{QuadraticLaw, Follows, Relation, lifted, odd_at_least, odd_at_most, pressure_resistance}
use Rattle.hyd_spec.specs.Law.{loss_at_most, loss_at_least}
use Rattle.hyd_spec_certificates.specs.EnclosingFunctions.{DemandLaw, Fixed, Driven, demand_low, demand_high}
use Rattle.hyd_spec_certificates.specs.EnclosingFunctions.{emitter_low, emitter_high, quadratic_low, quadratic_high}
use Rattle.hyd_spec.specs.Outflow.{IsWithinTolerance, pressure_at, is_pressure_driven, FollowsPart, FollowsPressure}
use Rattle.hyd_spec.specs.Outflow.{FollowsEmitter, part_at_least, part_at_most}
use Rattle.hyd_spec_certificates.specs.PeriodNetwork.{IsDriven, IsDemandLaw}
use Rattle.hyd_theorems_on_definitions.specs.SoundLawsAndGrids.{IsLaw, IsSoundCapacity}
use Rattle.hyd_lemmas.proofs.BooleanTests.{le-yes, le-no}
use Rattle.hyd_theorems_on_definitions.proofs.EachLaw.{IsLaw-quad}
use Rattle.hyd_theorems_on_definitions.proofs.LinkLaws.{IsLaw-lifted, at_most_for, at_least_for}
use Rattle.hyd_theorems_on_definitions.proofs.EachLaw.{IsSoundCapacity-made}
use Rattle.hyd_lemmas.proofs.Integers.{exchanged, floor_low, ceiling_high, floor_greatest, ceiling_least}
use Rattle.hyd_lemmas.proofs.Integers.{floor_at_most_ceiling, min_left, min_right, min_is, abs_above}
use Rattle.hyd_lemmas.proofs.Losses.{square_is}
use Rattle.std.proofs.Math.IntN.{*ℤ_comm}
use Rattle.std.proofs.Math.Nat.{mul-le-mul_right}
use Rattle.hyd_num.specs.Fraction.{Fraction}
use Rattle.hyd_num.specs.FileQuantity.{head_ticks_in_billionth_of_metre, numerator_of_billionth_of_pound}
use Rattle.hyd_num.specs.FileQuantity.{pressure_numerator, pressure_denominator, pressure_fraction}
use Rattle.hyd_spec.specs.Loss.{SquareLossAtMost, SquareLossAtLeast}
use Rattle.hyd_theorems_on_definitions.proofs.FlowsAtOneNode.{flow-below, flow-above}

-- ---- emitters

pub emitter-below : (junction : Junction) (emitter : Option Capacity) (S : ℕ) (d x q : ℤ) → emitter ≡ junction.emitter
    → IfSome emitter IsSoundCapacity → 0 < S
    → (pos S *ℤ d) ≤ℤ x → FollowsEmitter junction S x q → (pos S *ℤ emitter_low emitter d) ≤ℤ (q +ℤ pos (S * 10))
emitter-below junction emitter S d x q same sound some le follows =
    by_case emitter sound (subst (λ (o : Option Capacity). MatchOption o (q ≡ pos 0)
    (λ capacity. Follows (QuadraticLaw capacity) S x q)) (sym same) follows)
  where
    by_case : (e : Option Capacity) → IfSome e IsSoundCapacity
        → MatchOption e (q ≡ pos 0) (λ capacity. Follows (QuadraticLaw capacity) S x q)
        → (pos S *ℤ emitter_low e d) ≤ℤ (q +ℤ pos (S * 10))
    by_case None sound h = omega (arith, ints, h)
    by_case (Some c) sound h = flow-below (QuadraticLaw c) S d x q sound some le h

pub emitter-above : (junction : Junction) (emitter : Option Capacity) (S : ℕ) (d x q : ℤ) → emitter ≡ junction.emitter
    → IfSome emitter IsSoundCapacity → 0 < S
    → x ≤ℤ (pos S *ℤ d) → FollowsEmitter junction S x q → (q -ℤ pos (S * 10)) ≤ℤ (pos S *ℤ emitter_high emitter d)
emitter-above junction emitter S d x q same sound some le follows =
    by_case emitter sound (subst (λ (o : Option Capacity). MatchOption o (q ≡ pos 0)
    (λ capacity. Follows (QuadraticLaw capacity) S x q)) (sym same) follows)
  where
    by_case : (e : Option Capacity) → IfSome e IsSoundCapacity
        → MatchOption e (q ≡ pos 0) (λ capacity. Follows (QuadraticLaw capacity) S x q)
        → (q -ℤ pos (S * 10)) ≤ℤ (pos S *ℤ emitter_high e d)
    by_case None sound h = omega (arith, ints, h)
    by_case (Some c) sound h = flow-above (QuadraticLaw c) S d x q sound some le h

-- ---- demands

within-below : (S : ℕ) (q exact e : ℤ) → e ≤ℤ exact → IsWithinTolerance S q (at_scale S exact)
    → (pos S *ℤ e) ≤ℤ (q +ℤ pos (S * 10))
within-below S q exact e le h = let a = times_rises S e exact le in let b = h.low in omega (arith, ints, a, b)

within-above : (S : ℕ) (q exact e : ℤ) → exact ≤ℤ e → IsWithinTolerance S q (at_scale S exact)
    → (q -ℤ pos (S * 10)) ≤ℤ (pos S *ℤ e)
within-above S q exact e le h = let a = times_rises S exact e le in let b = h.high in omega (arith, ints, a, b)

none-below : (S : ℕ) (q e : ℤ) → e ≤ℤ pos 0 → IsWithinTolerance S q (pos 0) → (pos S *ℤ e) ≤ℤ (q +ℤ pos (S * 10))
none-below S q e le h = let a = times_rises S e (pos 0) le in let b = h.low in omega (arith, ints, a, b)

none-above : (S : ℕ) (q e : ℤ) → pos 0 ≤ℤ e → IsWithinTolerance S q (pos 0) → (q -ℤ pos (S * 10)) ≤ℤ (pos S *ℤ e)
none-above S q e le h = let a = times_rises S (pos 0) e le in let b = h.high in omega (arith, ints, a, b)

-- a pressure of p / S ticks, at least d ticks and at most x, and the other way round
pub under : (S : ℕ) (d p : ℤ) (x : Rational) → 0 < S → (pos S *ℤ d) ≤ℤ p → (p *ℤ pos x.den) ≤ℤ (x.num *ℤ pos S)
    → (pos x.den *ℤ d) ≤ℤ x.num
under S d p x some le at = times_reflects S (pos x.den *ℤ d) x.num some
    (let a = times_rises x.den (pos S *ℤ d) p le in
    omega (arith, ints, a, at, *ℤ_comm p (pos x.den), *ℤ_comm x.num (pos S), exchanged S x.den d))

pub over_it : (S : ℕ) (d p : ℤ) (x : Rational) → 0 < S → p ≤ℤ (pos S *ℤ d) → (x.num *ℤ pos S) ≤ℤ (p *ℤ pos x.den)
    → x.num ≤ℤ (pos x.den *ℤ d)
over_it S d p x some le at = times_reflects S x.num (pos x.den *ℤ d) some
    (let a = times_rises x.den p (pos S *ℤ d) le in
    omega (arith, ints, a, at, *ℤ_comm p (pos x.den), *ℤ_comm x.num (pos S), exchanged S x.den d))

pub not_under : (S : ℕ) (d p : ℤ) (x : Rational) → p ≤ℤ (pos S *ℤ d) → (x.num *ℤ pos S) <ℤ (p *ℤ pos x.den)
    → (pos x.den *ℤ d) ≤ℤ x.num → ⊥
not_under S d p x le at small =
    let a = times_rises x.den p (pos S *ℤ d) le in
    let b = times_rises S (pos x.den *ℤ d) x.num small in
    let e : ⊥ = omega (arith, ints, a, b, at, *ℤ_comm p (pos x.den), *ℤ_comm x.num (pos S), exchanged S x.den d) in e

pub not_over : (S : ℕ) (d p : ℤ) (x : Rational) → (pos S *ℤ d) ≤ℤ p → (p *ℤ pos x.den) <ℤ (x.num *ℤ pos S)
    → x.num ≤ℤ (pos x.den *ℤ d) → ⊥
not_over S d p x le at large =
    let a = times_rises x.den (pos S *ℤ d) p le in
    let b = times_rises S x.num (pos x.den *ℤ d) large in
    let e : ⊥ = omega (arith, ints, a, b, at, *ℤ_comm p (pos x.den), *ℤ_comm x.num (pos S), exchanged S x.den d) in e

pub high-positive : (c : Capacity) (z : ℤ) → pos 0 ≤ℤ z → pos 0 ≤ℤ quadratic_high c z
high-positive c (pos n) le = omega (arith, ints)
high-positive c (negsuc n) le = absurd (omega (arith, ints))

pub twice_negated : (x : Rational) → floor (negated (negated x)) ≡ floor x
twice_negated x = ap (λ (z : ℤ). floor (record {
  num = z;
  den = x.den;
})) (let e : neg_ℤ (neg_ℤ x.num) ≡ x.num = omega (arith, ints) in e)

pub driven-below : (least most : Rational) (D : ℤ) (c : Capacity) (A B : Relation) (S : ℕ) (d p q : ℤ) (P : Type 0)
    → 0 < least.den → 0 < most.den → 0 < S → pos 0 ≤ℤ D
    → IsLaw A B (λ d. quadratic_low c (d +ℤ floor (negated least)))
    (λ d. quadratic_high c (d +ℤ ceiling (negated least)))
    → ((least.num *ℤ pos S) <ℤ (p *ℤ pos least.den) → A S p (pos 0)) → (P → B S p (q +ℤ pos (S * 10)))
    → (pos S *ℤ d) ≤ℤ p
    → MatchBool (is_at_most (pressure_at S p) least) (IsWithinTolerance S q (pos 0))
    (MatchBool (is_at_most most (pressure_at S p)) (IsWithinTolerance S q (at_scale S D)) P)
    → (pos S *ℤ demand_low (Driven D c least most) d) ≤ℤ (q +ℤ pos (S * 10))
driven-below least most D c A B S d p q P pl pm some positive law begins part le follows =
    elim (cases_Bool (is_at_most (pressure_at S p) least)) [
      | inl held ↦ none-below S q (demand_low (Driven D c least most) d)
          (cond_both (int_le d (ceiling least)) (pos 0) (if int_le (ceiling most) d then D
          else int_min D (quadratic_low c (d -ℤ ceiling least))) (λ z. z ≤ℤ pos 0)
          (λ e. omega (arith, ints))
          (λ e. absurd (let a = le-no d (ceiling least) e in
          let b = floor_greatest least d pl (under S d p least some le (le-yes (p *ℤ pos least.den) (least.num *ℤ pos S)
          held)) in
          let f = floor_at_most_ceiling least pl in omega (arith, ints, a, b, f))))
          (MatchBool-at_true _ _ held follows)
      | inr fails ↦ let rest = MatchBool-at_false (IsWithinTolerance S q (pos 0))
          (MatchBool (is_at_most most (pressure_at S p)) (IsWithinTolerance S q (at_scale S D)) P) fails follows in
          elim (cases_Bool (is_at_most most (pressure_at S p))) [
            | inl held ↦ within-below S q D (demand_low (Driven D c least most) d)
                (cond_both (int_le d (ceiling least)) (pos 0) (if int_le (ceiling most) d then D
                else int_min D (quadratic_low c (d -ℤ ceiling least))) (λ z. z ≤ℤ D)
                (λ e. positive)
                (λ e. cond_both (int_le (ceiling most) d) D (int_min D (quadratic_low c (d -ℤ ceiling least)))
                (λ z. z ≤ℤ D)
                (λ g. omega (arith, ints)) (λ g. min_left D (quadratic_low c (d -ℤ ceiling least)))))
                (MatchBool-at_true _ _ held rest)
            | inr below ↦
                let end = part (MatchBool-at_false (IsWithinTolerance S q (at_scale S D)) P below rest) in
                cond_both (int_le d (ceiling least)) (pos 0) (if int_le (ceiling most) d then D
                else int_min D (quadratic_low c (d -ℤ ceiling least))) (λ z. (pos S *ℤ z) ≤ℤ (q +ℤ pos (S * 10)))
                (λ e. let a = law.consistent S p (pos 0) (q +ℤ pos (S * 10)) some
                (begins (le-no (p *ℤ pos least.den) (least.num *ℤ pos S) fails)) end in omega (arith, ints, a))
                (λ e. cond_both (int_le (ceiling most) d) D (int_min D (quadratic_low c (d -ℤ ceiling least)))
                (λ z. (pos S *ℤ z) ≤ℤ (q +ℤ pos (S * 10)))
                (λ g. absurd (not_over S d p most le (le-no (most.num *ℤ pos S) (p *ℤ pos most.den) below)
                (let a = ceiling_high most pm in
                let b = times_rises most.den (ceiling most) d (le-yes (ceiling most) d g) in
                omega (arith, ints, a, b))))
                (λ g. let a = times_rises S (int_min D (quadratic_low c (d -ℤ ceiling least)))
                (quadratic_low c (d -ℤ ceiling least)) (min_right D (quadratic_low c (d -ℤ ceiling least))) in
                let b = law.consistent S p (pos S *ℤ quadratic_low c (d +ℤ floor (negated least))) (q +ℤ pos (S * 10))
                some (law.encloses_below S d p some le) end in
                let e : d +ℤ floor (negated least) ≡ d -ℤ ceiling least = omega (arith, ints) in
                let b' = subst (λ (z : ℤ). (pos S *ℤ quadratic_low c z) ≤ℤ (q +ℤ pos (S * 10))) e b in
                omega (arith, ints, a, b')))
          ]
    ]

pub driven-above : (least most : Rational) (D : ℤ) (c : Capacity) (A B : Relation) (S : ℕ) (d p q : ℤ) (P : Type 0)
    → 0 < least.den → 0 < most.den → 0 < S → pos 0 ≤ℤ D
    → IsLaw A B (λ d. quadratic_low c (d +ℤ floor (negated least)))
    (λ d. quadratic_high c (d +ℤ ceiling (negated least)))
    → ((p *ℤ pos most.den) <ℤ (most.num *ℤ pos S) → B S p (pos S *ℤ D)) → (P → A S p (q -ℤ pos (S * 10)))
    → p ≤ℤ (pos S *ℤ d)
    → MatchBool (is_at_most (pressure_at S p) least) (IsWithinTolerance S q (pos 0))
    (MatchBool (is_at_most most (pressure_at S p)) (IsWithinTolerance S q (at_scale S D)) P)
    → (q -ℤ pos (S * 10)) ≤ℤ (pos S *ℤ demand_high (Driven D c least most) d)
driven-above least most D c A B S d p q P pl pm some positive law ends part le follows =
    elim (cases_Bool (is_at_most (pressure_at S p) least)) [
      | inl held ↦ none-above S q (demand_high (Driven D c least most) d)
          (cond_both (int_le d (floor least)) (pos 0) (if int_le (floor most) d then D
          else int_min D (quadratic_high c (d -ℤ floor least))) (λ z. pos 0 ≤ℤ z)
          (λ e. omega (arith, ints))
          (λ e. cond_both (int_le (floor most) d) D (int_min D (quadratic_high c (d -ℤ floor least))) (λ z. pos 0 ≤ℤ z)
          (λ g. positive)
          (λ g. min_is (λ z. pos 0 ≤ℤ z) D (quadratic_high c (d -ℤ floor least)) (λ h. positive)
          (λ h. high-positive c (d -ℤ floor least) (let a = le-no d (floor least) e in omega (arith, ints, a))))))
          (MatchBool-at_true _ _ held follows)
      | inr fails ↦ let rest = MatchBool-at_false (IsWithinTolerance S q (pos 0))
          (MatchBool (is_at_most most (pressure_at S p)) (IsWithinTolerance S q (at_scale S D)) P) fails follows in
          let more : int_le d (floor least) ≡ true
          → ⊥ = (λ e. not_under S d p least le (le-no (p *ℤ pos least.den) (least.num *ℤ pos S) fails)
          (let a = floor_low least pl in let b = times_rises least.den d (floor least) (le-yes d (floor least) e) in
          omega (arith, ints, a, b))) in
          elim (cases_Bool (is_at_most most (pressure_at S p))) [
            | inl held ↦ within-above S q D (demand_high (Driven D c least most) d)
                (cond_both (int_le d (floor least)) (pos 0) (if int_le (floor most) d then D
                else int_min D (quadratic_high c (d -ℤ floor least))) (λ z. D ≤ℤ z)
                (λ e. absurd (more e))
                (λ e. cond_both (int_le (floor most) d) D (int_min D (quadratic_high c (d -ℤ floor least)))
                (λ z. D ≤ℤ z)
                (λ g. omega (arith, ints))
                (λ g. absurd (let a = le-no (floor most) d g in
                let b = ceiling_least most d pm (over_it S d p most some le
                (le-yes (most.num *ℤ pos S) (p *ℤ pos most.den) held)) in
                let f = floor_at_most_ceiling most pm in omega (arith, ints, a, b, f)))))
                (MatchBool-at_true _ _ held rest)
            | inr below ↦
                let begin = part (MatchBool-at_false (IsWithinTolerance S q (at_scale S D)) P below rest) in
                let whole : (q -ℤ pos (S * 10)) ≤ℤ (pos S *ℤ D) = law.consistent S p (q -ℤ pos (S * 10)) (pos S *ℤ D)
                some
                begin (ends (le-no (most.num *ℤ pos S) (p *ℤ pos most.den) below)) in
                cond_both (int_le d (floor least)) (pos 0) (if int_le (floor most) d then D
                else int_min D (quadratic_high c (d -ℤ floor least))) (λ z. (q -ℤ pos (S * 10)) ≤ℤ (pos S *ℤ z))
                (λ e. absurd (more e))
                (λ e. cond_both (int_le (floor most) d) D (int_min D (quadratic_high c (d -ℤ floor least)))
                (λ z. (q -ℤ pos (S * 10)) ≤ℤ (pos S *ℤ z))
                (λ g. whole)
                (λ g. min_is (λ z. (q -ℤ pos (S * 10)) ≤ℤ (pos S *ℤ z)) D (quadratic_high c (d -ℤ floor least))
                (λ h. whole)
                (λ h. let b = law.consistent S p (q -ℤ pos (S * 10))
                (pos S *ℤ quadratic_high c (d +ℤ ceiling (negated least))) some begin
                (law.encloses_above S d p some le) in
                let t = twice_negated least in
                let e : d +ℤ ceiling (negated least) ≡ d -ℤ floor least = omega (arith, ints, t) in
                subst (λ (z : ℤ). (q -ℤ pos (S * 10)) ≤ℤ (pos S *ℤ quadratic_high c z)) e b)))
          ]
    ]

-- ---- demands of a network

pressure-gap : (us : Bool) (a b : ℤ) → (pressure_numerator us a -ℤ pressure_numerator us b)
    ≤ℤ pos (pressure_fraction us (unsigned_abs (a -ℤ b))).num
pressure-gap true a b =
    let r = times_rises numerator_of_billionth_of_pound (a -ℤ b) (pos (unsigned_abs (a -ℤ b))) (abs_above (a -ℤ b)) in
    omega (arith, ints, r, times_minus numerator_of_billionth_of_pound a b)
pressure-gap false a b =
    let r = times_rises head_ticks_in_billionth_of_metre (a -ℤ b) (pos (unsigned_abs (a -ℤ b))) (abs_above (a -ℤ b)) in
    omega (arith, ints, r, times_minus head_ticks_in_billionth_of_metre a b)

pressure-den : (us : Bool) (v : ℕ) → (pressure_fraction us v).den ≡ pressure_denominator us
pressure-den true v = refl
pressure-den false v = refl

pub pressure-above : (us : Bool) → 0 < pressure_denominator us
pressure-above true = omega arith
pressure-above false = omega arith

-- above the minimum pressure the demand flow is at least 0
pub begins_at : (r : Fraction) (S : ℕ) (least : Rational) (p : ℤ) → (least.num *ℤ pos S) <ℤ (p *ℤ pos least.den)
    → lifted (negated least) (odd_at_least (SquareLossAtMost r) (SquareLossAtLeast r)) S p (pos 0)
begins_at r S least p at = at_most_for (SquareLossAtMost r) (S * least.den) (least.den * 0) 0
    ((pos least.den *ℤ p) +ℤ (pos S *ℤ neg_ℤ least.num))
    (λ y le. let l : r.num * (least.den * 0 * (least.den * 0)) ≤ r.den * (S * least.den * y) = omega arith in l)
    (omega (arith, ints, at, *ℤ_comm p (pos least.den), *ℤ_comm least.num (pos S), times_neg S least.num))

-- and below the required one at most the demand
fits : (a b den n S y : ℕ) → a ≡ den → y ≤ S * b → a * n ^ 2 * (S * den * y) ≤ b * 1
    * ((den * (S * n)) * (den * (S * n)))
fits a b den n S y same le =
    let e : a * n ^ 2 * (S * den * y) ≡ den * n ^ 2 * (S * den * y) = ap (λ k. k * n ^ 2 * (S * den * y)) same in
    let l : y * (den * den * S * (n * n)) ≤ S * b * (den * den * S * (n * n)) = mul-le-mul_right
    (den * den * S * (n * n)) le in
    let s : den * n ^ 2 * (S * den * y) ≡ den * (n * n) * (S * den * y) = ap (λ k. den * k * (S * den * y))
    (square_is n) in
    omega (arith, e, l, s)

pub ends_at : (us : Bool) (least most : Decimal) (n S : ℕ) (p : ℤ)
    → (p *ℤ pos (pressure_denominator us)) <ℤ (pressure_numerator us most.nano *ℤ pos S)
    → lifted (negated (pressure_value us least)) (odd_at_most
    (SquareLossAtMost (pressure_resistance (pos n) least most us))
    (SquareLossAtLeast (pressure_resistance (pos n) least most us)))
    S p (pos S *ℤ pos n)
ends_at us least most n S p at =
    at_least_for (SquareLossAtLeast (pressure_resistance (pos n) least most us)) (S * pressure_denominator us)
    (pressure_denominator us * (S * n))
    (S * (pressure_fraction us (unsigned_abs (most.nano -ℤ least.nano))).num)
    ((pos (pressure_denominator us) *ℤ p) +ℤ (pos S *ℤ neg_ℤ (pressure_numerator us least.nano)))
    (λ y le. fits (pressure_fraction us (unsigned_abs (most.nano -ℤ least.nano))).den
    (pressure_fraction us (unsigned_abs (most.nano -ℤ least.nano))).num
    (pressure_denominator us) n S y (pressure-den us (unsigned_abs (most.nano -ℤ least.nano))) le)
    (let g = times_rises S _ _ (pressure-gap us most.nano least.nano) in
    omega (
      arith,
      ints,
      at,
      g,
      times_minus S (pressure_numerator us most.nano) (pressure_numerator us least.nano),
      times_neg S (pressure_numerator us least.nano),
      *ℤ_comm p (pos (pressure_denominator us)),
      *ℤ_comm (pressure_numerator us most.nano) (pos S),
    ))

is_driven : (project : Project) (demand : ℤ) → is_pressure_driven project demand ≡ true → (n : ℕ) × (demand ≡ pos n)
is_driven project (pos n) e = (n, refl)
is_driven project (negsuc n) e = absurd (cc)

driven-law : (project : Project) (demand : ℤ) (law : DemandLaw) (driven : IsDriven project demand law)
    → IsLaw (part_at_least project demand) (part_at_most project demand)
    (λ d. quadratic_low driven.capacity (d +ℤ floor (negated (minimum_pressure project))))
    (λ d. quadratic_high driven.capacity (d +ℤ ceiling (negated (minimum_pressure project))))
driven-law project demand law driven =
    IsLaw-lifted (negated (minimum_pressure project)) _ _ (quadratic_low driven.capacity)
    (quadratic_high driven.capacity) (pressure-above (is_us project))
    (subst (λ (o : Origin). IsLaw (odd_at_least (loss_at_most o) (loss_at_least o))
    (odd_at_most (loss_at_most o) (loss_at_least o)) (quadratic_low driven.capacity)
    (quadratic_high driven.capacity))
    driven.origin (IsLaw-quad driven.capacity (IsSoundCapacity-made driven.capacity driven.made)))

pub demand-below : (project : Project) (demand : ℤ) (law : DemandLaw) (S : ℕ) (d p q : ℤ)
    → IsDemandLaw project demand law → 0 < S → (pos S *ℤ d) ≤ℤ p
    → MatchBool (is_pressure_driven project demand) (FollowsPressure project demand S p q)
    (IsWithinTolerance S q (at_scale S demand))
    → (pos S *ℤ demand_low law d) ≤ℤ (q +ℤ pos (S * 10))
demand-below project demand law S d p q is some le follows = elim (cases_Bool (is_pressure_driven project demand)) [
  | inl held ↦ driven (MatchBool-at_true (IsDriven project demand law) (law ≡ Fixed demand) held is)
      (is_driven project demand held)
      (MatchBool-at_true (FollowsPressure project demand S p q) (IsWithinTolerance S q (at_scale S demand)) held
      follows)
  | inr fails ↦ fixed (MatchBool-at_false (IsDriven project demand law) (law ≡ Fixed demand) fails is)
      (MatchBool-at_false (FollowsPressure project demand S p q) (IsWithinTolerance S q (at_scale S demand)) fails
      follows)
]
  where
    fixed : law ≡ Fixed demand → IsWithinTolerance S q (at_scale S demand)
        → (pos S *ℤ demand_low law d) ≤ℤ (q +ℤ pos (S * 10))
    fixed e h = subst (λ (l : DemandLaw). (pos S *ℤ demand_low l d) ≤ℤ (q +ℤ pos (S * 10))) (sym e)
        (within-below S q demand demand (omega (arith, ints)) h)

    driven : IsDriven project demand law → ((n : ℕ) × (demand ≡ pos n)) → FollowsPressure project demand S p q
        → (pos S *ℤ demand_low law d) ≤ℤ (q +ℤ pos (S * 10))
    driven is (n, e) h = subst (λ (l : DemandLaw). (pos S *ℤ demand_low l d) ≤ℤ (q +ℤ pos (S * 10))) (sym is.is_law)
        (driven-below (minimum_pressure project) (required_pressure project) demand is.capacity
        (part_at_least project demand) (part_at_most project demand) S d p q (FollowsPart project demand S p q)
        (pressure-above (is_us project)) (pressure-above (is_us project)) some (omega (arith, ints, e))
        (driven-law project demand law is)
        (begins_at (pressure_resistance demand project.options.p0 project.options.pf (is_us project)) S
        (minimum_pressure project) p)
        (λ part. part.at_most) le h)

pub demand-above : (project : Project) (demand : ℤ) (law : DemandLaw) (S : ℕ) (d p q : ℤ)
    → IsDemandLaw project demand law → 0 < S → p ≤ℤ (pos S *ℤ d)
    → MatchBool (is_pressure_driven project demand) (FollowsPressure project demand S p q)
    (IsWithinTolerance S q (at_scale S demand))
    → (q -ℤ pos (S * 10)) ≤ℤ (pos S *ℤ demand_high law d)
demand-above project demand law S d p q is some le follows = elim (cases_Bool (is_pressure_driven project demand)) [
  | inl held ↦ driven (MatchBool-at_true (IsDriven project demand law) (law ≡ Fixed demand) held is)
      (is_driven project demand held)
      (MatchBool-at_true (FollowsPressure project demand S p q) (IsWithinTolerance S q (at_scale S demand)) held
      follows)
  | inr fails ↦ fixed (MatchBool-at_false (IsDriven project demand law) (law ≡ Fixed demand) fails is)
      (MatchBool-at_false (FollowsPressure project demand S p q) (IsWithinTolerance S q (at_scale S demand)) fails
      follows)
]
  where
    fixed : law ≡ Fixed demand → IsWithinTolerance S q (at_scale S demand)
        → (q -ℤ pos (S * 10)) ≤ℤ (pos S *ℤ demand_high law d)
    fixed e h = subst (λ (l : DemandLaw). (q -ℤ pos (S * 10)) ≤ℤ (pos S *ℤ demand_high l d)) (sym e)
        (within-above S q demand demand (omega (arith, ints)) h)

    driven : IsDriven project demand law → ((n : ℕ) × (demand ≡ pos n)) → FollowsPressure project demand S p q
        → (q -ℤ pos (S * 10)) ≤ℤ (pos S *ℤ demand_high law d)
    driven is (n, e) h = subst (λ (l : DemandLaw). (q -ℤ pos (S * 10)) ≤ℤ (pos S *ℤ demand_high l d)) (sym is.is_law)
        (driven-above (minimum_pressure project) (required_pressure project) demand is.capacity
        (part_at_least project demand) (part_at_most project demand) S d p q (FollowsPart project demand S p q)
        (pressure-above (is_us project)) (pressure-above (is_us project)) some (omega (arith, ints, e))
        (driven-law project demand law is)
        (subst (λ (z : ℤ). (p *ℤ pos (pressure_denominator (is_us project)))
        <ℤ (pressure_numerator (is_us project) project.options.pf.nano *ℤ pos S)
        → part_at_most project z S p (pos S *ℤ z)) (sym e)
        (ends_at (is_us project) project.options.p0 project.options.pf n S p))
        (λ part. part.at_least) le h)
