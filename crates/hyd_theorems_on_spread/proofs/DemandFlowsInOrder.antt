-- The flow of a demand against the enclosing functions of a lesser one, and of a greater one.
use Rattle.std.proofs.Common.{◌≡◌, ℕ, zero, suc, ◌*◌, ◌<◌, ◌≤◌, ℤ, pos, negsuc, neg_ℤ, ◌+ℤ◌, ◌-ℤ◌, ◌*ℤ◌, ◌≤ℤ◌, ◌<ℤ◌}
use Rattle.std.proofs.Common.{refl, sym, subst, arith, Bool, true, false, inl, inr}
use Rattle.std.specs.Prelude.{MatchBool, unsigned_abs}
use Rattle.std.proofs.lemmas.Int.{ints}
use Rattle.std.proofs.lemmas.Bool.{MatchBool-at_true, MatchBool-at_false, cases_Bool}
use Rattle.std.proofs.Math.Nat.{mul-le-mul_right, mul-le-mul}
use Rattle.std.proofs.Math.IntN.{*ℤ_comm}
use Rattle.hyd_num.proofs.Integers.{times_rises, times_reflects, times_neg}
use Rattle.hyd_num.specs.Fraction.{Fraction}
use Rattle.hyd_num.specs.Rational.{Rational, floor, ceiling, negated, is_at_most}
use Rattle.hyd_num.specs.FileQuantity.{pressure_fraction}
use Rattle.hyd_spec.specs.ProgramTypes.{Project, Origin}
use Rattle.hyd_spec.specs.Scale.{at_scale}
use Rattle.hyd_spec.specs.Loss.{SquareLossAtMost, SquareLossAtLeast}
use Rattle.hyd_spec.specs.Law.{Loss, odd_at_least, odd_at_most, pressure_resistance, loss_at_most, loss_at_least}
use Rattle.hyd_spec.specs.DemandsHeadsAndPumpLifts.{is_us, minimum_pressure, required_pressure}
use Rattle.hyd_spec.specs.Outflow.{IsWithinTolerance, pressure_at, is_pressure_driven, FollowsPart, FollowsPressure}
use Rattle.hyd_spec.specs.Outflow.{part_at_least, part_at_most}
use Rattle.hyd_spec_certificates.specs.EnclosingFunctions.{DemandLaw, Fixed, demand_low, demand_high}
use Rattle.hyd_spec_certificates.specs.EnclosingFunctions.{quadratic_low, quadratic_high}
use Rattle.hyd_spec_certificates.specs.PeriodNetwork.{IsDriven, IsDemandLaw}
use Rattle.hyd_lemmas.proofs.BooleanTests.{le-no}
use Rattle.hyd_lemmas.proofs.Integers.{min_left}
use Rattle.hyd_lemmas.proofs.Losses.{square_is}
use Rattle.hyd_theorems_on_definitions.specs.SoundLawsAndGrids.{IsLaw}
use Rattle.hyd_theorems_on_definitions.proofs.EachLaw.{IsLaw-quad, IsSoundCapacity-made}
use Rattle.hyd_theorems_on_definitions.proofs.LinkLaws.{IsLaw-lifted}
use Rattle.hyd_theorems_on_definitions.proofs.Outflows.{driven-below, driven-above, begins_at, ends_at, pressure-above}
use Rattle.hyd_theorems_on_spread.proofs.OutflowsInOrder.{stepped-is, demand-high-positive}
use Rattle.hyd_theorems_on_spread.proofs.OutflowsInOrder.{driven-above-zero, fixed-below, also-driven}

-- ---- flows about a whole demand, and about none

within-below : (S : ℕ) (q exact e : ℤ) → e ≤ℤ exact → IsWithinTolerance S q (at_scale S exact)
    → (pos S *ℤ e) ≤ℤ (q +ℤ pos (S * 10))
within-below S q exact e le h = let a = times_rises S e exact le in let b = h.low in omega (arith, ints, a, b)

within-above : (S : ℕ) (q exact e : ℤ) → exact ≤ℤ e → IsWithinTolerance S q (at_scale S exact)
    → (q -ℤ pos (S * 10)) ≤ℤ (pos S *ℤ e)
within-above S q exact e le h = let a = times_rises S exact e le in let b = h.high in omega (arith, ints, a, b)

none-below : (S : ℕ) (q e : ℤ) → e ≤ℤ pos 0 → IsWithinTolerance S q (pos 0) → (pos S *ℤ e) ≤ℤ (q +ℤ pos (S * 10))
none-below S q e le h = let a = times_rises S e (pos 0) le in let b = h.low in omega (arith, ints, a, b)

none-above : (S : ℕ) (q e : ℤ) → pos 0 ≤ℤ e → IsWithinTolerance S q (pos 0) → (q -ℤ pos (S * 10)) ≤ℤ (pos S *ℤ e)
none-above S q e le h = let a = times_rises S (pos 0) e le in let b = h.high in omega (arith, ints, a, b)

-- ---- the square root law of a greater demand

-- a greater demand has the lesser resistance
record IsLessResistance (r s : Fraction) : Type 0 where
  same : r.num ≡ s.num
  less : r.den ≤ s.den

-- where a flow loses at least a head with the lesser resistance, it does with the greater one
lesser-at_most : (r s : Fraction) (S : ℕ) (x a : ℤ) → IsLessResistance r s → pos 1 ≤ℤ x
    → odd_at_most (SquareLossAtMost s) (SquareLossAtLeast s) S x a
    → odd_at_most (SquareLossAtMost r) (SquareLossAtLeast r) S x a
lesser-at_most r s S (pos y) (pos a) less some h =
    let l = mul-le-mul_right (S * y) less.less in
    let e = less.same in
    let n : r.num * (a * a) ≡ s.num * (a * a) = rw e refl in
    omega (arith, l, n, h)
lesser-at_most r s S (pos zero) (negsuc a) less some h = absurd (omega (arith, ints))
lesser-at_most r s S (pos (suc y)) (negsuc a) less some h = absurd h
lesser-at_most r s S (negsuc y) a less some h = absurd (omega (arith, ints))

-- and where it loses at most a head with the greater one, it does with the lesser
greater-at_least : (r s : Fraction) (S : ℕ) (x a : ℤ) → IsLessResistance r s → pos 1 ≤ℤ x
    → odd_at_least (SquareLossAtMost r) (SquareLossAtLeast r) S x a
    → odd_at_least (SquareLossAtMost s) (SquareLossAtLeast s) S x a
greater-at_least r s S (pos y) (pos a) less some h =
    let l = mul-le-mul_right (S * y) less.less in
    let e = less.same in
    let n : r.num * (a * a) ≡ s.num * (a * a) = rw e refl in
    omega (arith, l, n, h)
greater-at_least r s S (pos zero) (negsuc a) less some h = absurd (omega (arith, ints))
greater-at_least r s S (pos (suc y)) (negsuc a) less some h = tt
greater-at_least r s S (negsuc y) a less some h = absurd (omega (arith, ints))

-- at a positive head a flow that is at most a is at least 0
not-negative : (A B : Loss) (S : ℕ) (x a : ℤ) → pos 1 ≤ℤ x → odd_at_most A B S x a → pos 0 ≤ℤ a
not-negative A B S x (pos a) some h = omega (arith, ints)
not-negative A B S (pos zero) (negsuc a) some h = absurd (omega (arith, ints))
not-negative A B S (pos (suc y)) (negsuc a) some h = absurd h
not-negative A B S (negsuc y) (negsuc a) some h = absurd (omega (arith, ints))

-- a pressure above the minimum, counted from it at the finer scale, is a head above 0
above-minimum : (S : ℕ) (least : Rational) (p : ℤ) → (least.num *ℤ pos S) <ℤ (p *ℤ pos least.den)
    → pos 1 ≤ℤ ((pos least.den *ℤ p) +ℤ (pos S *ℤ neg_ℤ least.num))
above-minimum S least p at =
    omega (arith, ints, at, *ℤ_comm p (pos least.den), *ℤ_comm least.num (pos S), times_neg S least.num)

module _ (network : Project) where
  least : Rational
  least = minimum_pressure network

  resistance : ℤ → Fraction
  resistance demand =
      pressure_resistance demand network.options.p0 network.options.pf (is_us network)

  is-less : (D E : ℤ) → pos 0 ≤ℤ D → D ≤ℤ E → IsLessResistance (resistance D) (resistance E)
  unfolding resistance
  is-less (pos m) (pos n) some le = record {
    same = refl;
    less =
        (let w = (pressure_fraction (is_us network) (unsigned_abs (network.options.pf.nano
        -ℤ network.options.p0.nano))).den in
        let s : m * m ≤ n * n = mul-le-mul (omega (arith, ints, le)) (omega (arith, ints, le)) in
        let l = mul-le-mul_right w s in
        rw (square_is m, square_is n) (omega (arith, l)));
  }
  is-less (pos m) (negsuc n) some le = absurd (omega (arith, ints, le))
  is-less (negsuc m) E some le = absurd (omega (arith, ints, some))

  lesser-part : (D E : ℤ) (S : ℕ) (p a : ℤ) → pos 0 ≤ℤ D → D ≤ℤ E
      → ((minimum_pressure network).num *ℤ pos S) <ℤ (p *ℤ pos (minimum_pressure network).den)
      → part_at_most network E S p a → part_at_most network D S p a
  unfolding resistance
  lesser-part D E S p a some le at h =
      lesser-at_most (resistance D) (resistance E) (S * (minimum_pressure network).den) _
      (pos (minimum_pressure network).den *ℤ a) (is-less D E some le)
      (above-minimum S (minimum_pressure network) p at) h

  greater-part : (D E : ℤ) (S : ℕ) (p a : ℤ) → pos 0 ≤ℤ D → D ≤ℤ E
      → ((minimum_pressure network).num *ℤ pos S) <ℤ (p *ℤ pos (minimum_pressure network).den)
      → part_at_least network D S p a → part_at_least network E S p a
  unfolding resistance
  greater-part D E S p a some le at h =
      greater-at_least (resistance D) (resistance E) (S * (minimum_pressure network).den) _
      (pos (minimum_pressure network).den *ℤ a) (is-less D E some le)
      (above-minimum S (minimum_pressure network) p at) h

  part-positive : (E : ℤ) (S : ℕ) (p a : ℤ)
      → ((minimum_pressure network).num *ℤ pos S) <ℤ (p *ℤ pos (minimum_pressure network).den)
      → part_at_most network E S p a → pos 0 ≤ℤ a
  unfolding resistance
  part-positive E S p a at h =
      let l = not-negative (SquareLossAtMost (resistance E)) (SquareLossAtLeast (resistance E))
      (S * (minimum_pressure network).den) _ (pos (minimum_pressure network).den *ℤ a)
      (above-minimum S (minimum_pressure network) p at) h in
      times_reflects (minimum_pressure network).den (pos 0) a (pressure-above (is_us network)) (omega (arith, ints, l))

  -- ---- the law of a demand that is driven by pressure

  its-law : (demand : ℤ) (law : DemandLaw) (driven : IsDriven network demand law)
      → IsLaw (part_at_least network demand) (part_at_most network demand)
      (λ d. quadratic_low driven.capacity (d +ℤ floor (negated (minimum_pressure network))))
      (λ d. quadratic_high driven.capacity (d +ℤ ceiling (negated (minimum_pressure network))))
  its-law demand law driven =
      IsLaw-lifted (negated (minimum_pressure network)) _ _ (quadratic_low driven.capacity)
      (quadratic_high driven.capacity) (pressure-above (is_us network))
      (subst (λ (o : Origin). IsLaw (odd_at_least (loss_at_most o) (loss_at_least o))
      (odd_at_most (loss_at_most o) (loss_at_least o)) (quadratic_low driven.capacity)
      (quadratic_high driven.capacity)) driven.origin
      (IsLaw-quad driven.capacity (IsSoundCapacity-made driven.capacity driven.made)))

  -- what follows the pressure, at each of the three kinds of pressures
  record Kinds (E : ℤ) (S : ℕ) (p q : ℤ) (R : Type 0) : Type 0 where
    none : is_at_most (pressure_at S p) (minimum_pressure network) ≡ true → IsWithinTolerance S q (pos 0) → R
    whole : is_at_most (pressure_at S p) (minimum_pressure network) ≡ false
        → is_at_most (required_pressure network) (pressure_at S p) ≡ true → IsWithinTolerance S q (at_scale S E) → R
    part : is_at_most (pressure_at S p) (minimum_pressure network) ≡ false
        → is_at_most (required_pressure network) (pressure_at S p) ≡ false → FollowsPart network E S p q → R

  by-kind : (E : ℤ) (S : ℕ) (p q : ℤ) (R : Type 0) → Kinds E S p q R → FollowsPressure network E S p q → R
  by-kind E S p q R kinds follows =
      elim (cases_Bool (is_at_most (pressure_at S p) (minimum_pressure network))) [
        | inl held ↦ kinds.none held (MatchBool-at_true _ _ held follows)
        | inr fails ↦ let rest = MatchBool-at_false (IsWithinTolerance S q (pos 0))
            (MatchBool (is_at_most (required_pressure network) (pressure_at S p)) (IsWithinTolerance S q (at_scale S E))
            (FollowsPart network E S p q)) fails follows in
            elim (cases_Bool (is_at_most (required_pressure network) (pressure_at S p))) [
              | inl held ↦ kinds.whole fails held (MatchBool-at_true _ _ held rest)
              | inr below ↦ kinds.part fails below (MatchBool-at_false (IsWithinTolerance S q (at_scale S E))
                  (FollowsPart network E S p q) below rest)
            ]
      ]

  at-false : (b : Bool) (P Q : Type 0) → b ≡ false → Q → MatchBool b P Q
  at-false true P Q e q = absurd (cc)
  at-false false P Q e q = q

  at-true : (b : Bool) (P Q : Type 0) → b ≡ true → P → MatchBool b P Q
  at-true true P Q e p = p
  at-true false P Q e p = absurd (cc)

  past-minimum : (S : ℕ) (p : ℤ) → is_at_most (pressure_at S p) (minimum_pressure network) ≡ false
      → ((minimum_pressure network).num *ℤ pos S) <ℤ (p *ℤ pos (minimum_pressure network).den)
  past-minimum S p fails =
      le-no (p *ℤ pos (minimum_pressure network).den) ((minimum_pressure network).num *ℤ pos S) fails

  -- no pressure leads to a negative flow of a demand that is driven by it
  not-taken-in : (E : ℤ) (S : ℕ) (p q : ℤ) → pos 0 ≤ℤ E → FollowsPressure network E S p q
      → pos 0 ≤ℤ (q +ℤ pos (S * 10))
  not-taken-in E S p q some follows = by-kind E S p q (pos 0 ≤ℤ (q +ℤ pos (S * 10))) (record {
    none = λ held h. let l = none-below S q (pos 0) (omega (arith, ints)) h in omega (arith, ints, l);
    whole = λ fails held h. let l = within-below S q E (pos 0) some h in omega (arith, ints, l);
    part = λ fails below h. part-positive E S p (q +ℤ pos (S * 10)) (past-minimum S p fails) h.at_most;
  }) follows

  -- ---- a lesser demand below

  -- a driven demand's low flow is at most the demand
  low-within : (D : ℤ) (law : DemandLaw) (d : ℤ) → pos 0 ≤ℤ D → IsDriven network D law → demand_low law d ≤ℤ D
  low-within D law d some is = rw is.is_law (stepped-is (λ z. z ≤ℤ D) D (ceiling (minimum_pressure network))
      (ceiling (required_pressure network)) (quadratic_low is.capacity) d some (omega (arith, ints))
      (λ lt. min_left D (quadratic_low is.capacity (d -ℤ ceiling (minimum_pressure network)))))

  driven-under : (D E : ℤ) (law : DemandLaw) (S : ℕ) (d p q : ℤ) → 0 < S → pos 0 ≤ℤ D → D ≤ℤ E
      → IsDriven network D law → (pos S *ℤ d) ≤ℤ p → FollowsPressure network E S p q
      → (pos S *ℤ demand_low law d) ≤ℤ (q +ℤ pos (S * 10))
  driven-under D E law S d p q some positive le is under follows =
      by-kind E S p q ((pos S *ℤ demand_low law d) ≤ℤ (q +ℤ pos (S * 10))) (record {
        none = λ held h. through (part_at_most network D S p (q +ℤ pos (S * 10))) (λ x. x)
            (at-true _ _ _ held h);
        whole = λ fails held h. within-below S q E (demand_low law d) (let l = low-within D law d positive is in
            omega (arith, ints, l, le)) h;
        part = λ fails below h. through (FollowsPart network E S p q)
            (λ x. lesser-part D E S p (q +ℤ pos (S * 10)) positive le (past-minimum S p fails) x.at_most)
            (at-false _ _ _ fails (at-false _ _ _ below h));
      }) follows
    where
      through : (P : Type 0) → (P → part_at_most network D S p (q +ℤ pos (S * 10)))
          → MatchBool (is_at_most (pressure_at S p) (minimum_pressure network)) (IsWithinTolerance S q (pos 0))
          (MatchBool (is_at_most (required_pressure network) (pressure_at S p))
          (IsWithinTolerance S q (at_scale S D)) P)
          → (pos S *ℤ demand_low law d) ≤ℤ (q +ℤ pos (S * 10))
      through P turn given = subst (λ (l : DemandLaw). (pos S *ℤ demand_low l d) ≤ℤ (q +ℤ pos (S * 10)))
          (sym is.is_law)
          (driven-below (minimum_pressure network) (required_pressure network) D is.capacity (part_at_least network D)
          (part_at_most network D) S d p q P (pressure-above (is_us network)) (pressure-above (is_us network)) some
          positive (its-law D law is)
          (begins_at (pressure_resistance D network.options.p0 network.options.pf (is_us network)) S
          (minimum_pressure network) p) turn under given)

  -- a demand's flow is at least the low flow of each lesser one, less the tolerance
  pub demand-under : (D E : ℤ) (law : DemandLaw) (S : ℕ) (d p q : ℤ) → D ≤ℤ E → IsDemandLaw network D law → 0 < S
      → (pos S *ℤ d) ≤ℤ p
      → MatchBool (is_pressure_driven network E) (FollowsPressure network E S p q)
      (IsWithinTolerance S q (at_scale S E))
      → (pos S *ℤ demand_low law d) ≤ℤ (q +ℤ pos (S * 10))
  demand-under D E law S d p q le is some under follows =
      by-case (is_pressure_driven network D) (is_pressure_driven network E) refl refl is follows
    where
      by-case : (b c : Bool) → is_pressure_driven network D ≡ b → is_pressure_driven network E ≡ c
          → MatchBool b (IsDriven network D law) (law ≡ Fixed D)
          → MatchBool c (FollowsPressure network E S p q) (IsWithinTolerance S q (at_scale S E))
          → (pos S *ℤ demand_low law d) ≤ℤ (q +ℤ pos (S * 10))
      by-case true true f g x y =
          driven-under D E law S d p q some (driven-above-zero network D f) le x under y
      by-case true false f g x y = absurd (also-driven network D E le f g)
      by-case false true f g x y =
          let small = times_rises S D (pos 0) (fixed-below network D E f g) in
          let l = not-taken-in E S p q (driven-above-zero network E g) y in
          rw x (omega (arith, ints, small, l))
      by-case false false f g x y = rw x (within-below S q E D le y)

  -- ---- a greater demand above

  driven-over : (D E : ℤ) (law : DemandLaw) (S : ℕ) (d p q : ℤ) → 0 < S → pos 0 ≤ℤ E → E ≤ℤ D
      → IsDriven network D law → p ≤ℤ (pos S *ℤ d) → FollowsPressure network E S p q
      → (q -ℤ pos (S * 10)) ≤ℤ (pos S *ℤ demand_high law d)
  driven-over D E law S d p q some positive le is over follows =
      by-kind E S p q ((q -ℤ pos (S * 10)) ≤ℤ (pos S *ℤ demand_high law d)) (record {
        none = λ held h. none-above S q (demand_high law d) (demand-high-positive network D law d
            (omega (arith, ints, positive, le)) is) h;
        whole = λ fails held h.
            let more = times_rises S E D le in
            let high = h.high in
            let r = through (at_scale S D +ℤ pos (S * 10))
            (part_at_least network D S p ((at_scale S D +ℤ pos (S * 10)) -ℤ pos (S * 10))) (λ x. x)
            (at-false _ _ _ fails (at-true _ _ _ held
            (record { low = omega (arith, ints); high = omega (arith, ints) }))) in
            omega (arith, ints, more, high, r);
        part = λ fails below h. through q (FollowsPart network E S p q)
            (λ x. greater-part E D S p (q -ℤ pos (S * 10)) positive le (past-minimum S p fails) x.at_least)
            (at-false _ _ _ fails (at-false _ _ _ below h));
      }) follows
    where
      whole-at : (z : ℤ) → pos 0 ≤ℤ z
          → (p *ℤ pos (required_pressure network).den) <ℤ ((required_pressure network).num *ℤ pos S)
          → part_at_most network z S p (pos S *ℤ z)
      whole-at (pos n) above = ends_at (is_us network) network.options.p0 network.options.pf n S p
      whole-at (negsuc n) above = absurd (omega (arith, ints, above))

      through : (r : ℤ) (P : Type 0) → (P → part_at_least network D S p (r -ℤ pos (S * 10)))
          → MatchBool (is_at_most (pressure_at S p) (minimum_pressure network)) (IsWithinTolerance S r (pos 0))
          (MatchBool (is_at_most (required_pressure network) (pressure_at S p))
          (IsWithinTolerance S r (at_scale S D)) P)
          → (r -ℤ pos (S * 10)) ≤ℤ (pos S *ℤ demand_high law d)
      through r P turn given = subst (λ (l : DemandLaw). (r -ℤ pos (S * 10)) ≤ℤ (pos S *ℤ demand_high l d))
          (sym is.is_law)
          (driven-above (minimum_pressure network) (required_pressure network) D is.capacity (part_at_least network D)
          (part_at_most network D) S d p r P (pressure-above (is_us network)) (pressure-above (is_us network)) some
          (omega (arith, ints, positive, le)) (its-law D law is)
          (whole-at D (omega (arith, ints, positive, le))) turn over given)

  -- and at most the high flow of each greater one, and the tolerance
  pub demand-over : (D E : ℤ) (law : DemandLaw) (S : ℕ) (d p q : ℤ) → E ≤ℤ D → IsDemandLaw network D law → 0 < S
      → p ≤ℤ (pos S *ℤ d)
      → MatchBool (is_pressure_driven network E) (FollowsPressure network E S p q)
      (IsWithinTolerance S q (at_scale S E))
      → (q -ℤ pos (S * 10)) ≤ℤ (pos S *ℤ demand_high law d)
  demand-over D E law S d p q le is some over follows =
      by-case (is_pressure_driven network D) (is_pressure_driven network E) refl refl is follows
    where
      by-case : (b c : Bool) → is_pressure_driven network D ≡ b → is_pressure_driven network E ≡ c
          → MatchBool b (IsDriven network D law) (law ≡ Fixed D)
          → MatchBool c (FollowsPressure network E S p q) (IsWithinTolerance S q (at_scale S E))
          → (q -ℤ pos (S * 10)) ≤ℤ (pos S *ℤ demand_high law d)
      by-case true true f g x y =
          driven-over D E law S d p q some (driven-above-zero network E g) le x over y
      by-case true false f g x y =
          within-above S q E (demand_high law d)
          (let small = fixed-below network E D g f in
          let l = demand-high-positive network D law d (driven-above-zero network D f) x in
          omega (arith, ints, small, l)) y
      by-case false true f g x y = absurd (also-driven network E D le g f)
      by-case false false f g x y = rw x (within-above S q E D le y)
