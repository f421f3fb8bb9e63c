-- A demand flow that is met at a pressure, at a scale, follows the exact law of the demand.
use Rattle.std.proofs.Common.{◌≡◌, ℕ, ◌<◌, ℤ, pos, negsuc, ◌+ℤ◌, ◌-ℤ◌, ◌*ℤ◌, ◌≤ℤ◌, ◌<ℤ◌, neg_ℤ, refl, ap}
use Rattle.std.proofs.Common.{subst, arith}
use Rattle.std.proofs.Common.{Bool, true, false}
use Rattle.std.specs.Prelude.{MatchBool, int_le, if◌then◌else◌}
use Rattle.std.specs.Int.{int_min}
use Rattle.std.proofs.lemmas.Int.{ints}
use Rattle.std.proofs.lemmas.Bool.{MatchBool-at_true, MatchBool-at_false, cond_both}
use Rattle.std.proofs.Math.IntN.{*ℤ_comm}
use Rattle.hyd_num.specs.Rational.{Rational, floor, ceiling, negated, is_at_most}
use Rattle.hyd_spec.specs.Scale.{at_scale, tolerance}
use Rattle.hyd_spec.specs.ProgramTypes.{Capacity}
use Rattle.hyd_spec.specs.Law.{QuadraticLaw, Lifted}
use Rattle.hyd_spec_witnesses.specs.EnclosingFunctionsAtScale.{quadratic_low_at, quadratic_high_at}
use Rattle.hyd_spec.specs.Outflow.{pressure_at}
use Rattle.hyd_spec_witnesses.specs.DemandsAtScale.{driven_low_at, driven_high_at}
use Rattle.hyd_theorems_on_witnesses.specs.DrivenDemands.{part_at_least, part_at_most, steps_at_least}
use Rattle.hyd_theorems_on_witnesses.specs.DrivenDemands.{steps_at_most, FollowsPressure, Parts}
use Rattle.hyd_num.proofs.Integers.{times_rises, times_reflects, times_neg}
use Rattle.hyd_lemmas.proofs.Integers.{exchanged, floor_low, ceiling_high, min_left, min_right, min_is}
use Rattle.hyd_lemmas.proofs.BooleanTests.{le-yes, le-no}
use Rattle.hyd_theorems_on_witnesses.proofs.EnclosingAtScale.{enclosed-below, enclosed-above, down-at, up-at}

matched : (b : Bool) (P Q : Type 0) → (b ≡ true → P) → (b ≡ false → Q) → MatchBool b P Q
matched true P Q first second = first refl
matched false P Q first second = second refl

-- a pressure of p / S ticks against a value and its whole neighbours, S-fold
up-to : (S : ℕ) (p : ℤ) (x : Rational) → 0 < x.den → (p *ℤ pos x.den) ≤ℤ (x.num *ℤ pos S)
    → p ≤ℤ (pos S *ℤ ceiling x)
up-to S p x some le = times_reflects x.den p (pos S *ℤ ceiling x) some
    (let a = times_rises S x.num (pos x.den *ℤ ceiling x) (ceiling_high x some) in
    omega (arith, ints, a, le, *ℤ_comm p (pos x.den), *ℤ_comm x.num (pos S), exchanged S x.den (ceiling x)))

from-on : (S : ℕ) (p : ℤ) (x : Rational) → 0 < x.den → (x.num *ℤ pos S) ≤ℤ (p *ℤ pos x.den)
    → (pos S *ℤ floor x) ≤ℤ p
from-on S p x some le = times_reflects x.den (pos S *ℤ floor x) p some
    (let a = times_rises S (pos x.den *ℤ floor x) x.num (floor_low x some) in
    omega (arith, ints, a, le, *ℤ_comm p (pos x.den), *ℤ_comm x.num (pos S), exchanged S x.den (floor x)))

-- and the other way round: from the ceiling on, up to the floor
reached : (S : ℕ) (p : ℤ) (x : Rational) → 0 < x.den → (pos S *ℤ ceiling x) ≤ℤ p
    → (x.num *ℤ pos S) ≤ℤ (p *ℤ pos x.den)
reached S p x some le =
    let a = times_rises S x.num (pos x.den *ℤ ceiling x) (ceiling_high x some) in
    let b = times_rises x.den (pos S *ℤ ceiling x) p le in
    omega (arith, ints, a, b, *ℤ_comm p (pos x.den), *ℤ_comm x.num (pos S), exchanged S x.den (ceiling x))

kept : (S : ℕ) (p : ℤ) (x : Rational) → 0 < x.den → p ≤ℤ (pos S *ℤ floor x)
    → (p *ℤ pos x.den) ≤ℤ (x.num *ℤ pos S)
kept S p x some le =
    let a = times_rises S (pos x.den *ℤ floor x) x.num (floor_low x some) in
    let b = times_rises x.den p (pos S *ℤ floor x) le in
    omega (arith, ints, a, b, *ℤ_comm p (pos x.den), *ℤ_comm x.num (pos S), exchanged S x.den (floor x))

high-positive : (S : ℕ) (c : Capacity) (z : ℤ) → pos 0 ≤ℤ z → pos 0 ≤ℤ quadratic_high_at S c z
high-positive S c (pos n) le = omega (arith, ints)
high-positive S c (negsuc n) le = absurd (omega (arith, ints))

low_lift : (x : Rational) → floor (negated x) ≡ neg_ℤ (ceiling x)
low_lift x = omega (arith, ints)

twice_negated : (x : Rational) → floor (negated (negated x)) ≡ floor x
twice_negated x = ap (λ (z : ℤ). floor (record {
  num = z;
  den = x.den;
})) (let e : neg_ℤ (neg_ℤ x.num) ≡ x.num = omega (arith, ints) in e)

high_lift : (x : Rational) → ceiling (negated x) ≡ neg_ℤ (floor x)
high_lift x = let t = twice_negated x in omega (arith, ints, t)

module _ (least most : Rational) (D : ℤ) (c : Capacity) (parts : Parts least most D c) (S : ℕ) (some : 0 < S) (p : ℤ)
  where
    whole : pos 0 ≤ℤ (pos S *ℤ D)
    whole = let t = times_rises S (pos 0) D parts.positive in omega (arith, ints, t)

    low-steps : steps_at_least least most D (part_at_least least c) S p (driven_low_at S D c least most p)
    low-steps = matched (is_at_most (pressure_at S p) least) _ _
        (λ held. by_parts (λ z. z ≤ℤ pos 0) (λ h. omega (arith, ints))
        (λ h g. absurd (early h held)) (λ h. absurd (early h held)))
        (λ fails. matched (is_at_most most (pressure_at S p)) _ _
        (λ held. by_parts (λ z. z ≤ℤ (pos S *ℤ D)) (λ h. whole) (λ h g. omega (arith, ints))
        (λ h. min_left (pos S *ℤ D) root))
        (λ under_it. by_parts (λ z. part_at_least least c S p z)
        (λ h. parts.begins S p (le-no (p *ℤ pos least.den) (least.num *ℤ pos S) fails))
        (λ h g. absurd (let a = reached S p most parts.some_most g in
        let b = le-no (most.num *ℤ pos S) (p *ℤ pos most.den) under_it in omega (arith, ints, a, b)))
        (λ h. down-at S (Lifted (negated least) (QuadraticLaw c)) p root (int_min (pos S *ℤ D) root) some
        (negated_den, parts.sound) (min_right (pos S *ℤ D) root)
        (subst (λ (z : ℤ). part_at_least least c S p (quadratic_low_at S c z)) place
        (enclosed-below S (Lifted (negated least) (QuadraticLaw c)) p some (negated_den, parts.sound))))))
      where
        root : ℤ
        root = quadratic_low_at S c (p -ℤ at_scale S (ceiling least))

        negated_den : 0 < least.den
        negated_den = parts.some_least

        place : p +ℤ at_scale S (floor (negated least)) ≡ p -ℤ at_scale S (ceiling least)
        place =
            let e = ap (λ (z : ℤ). pos S *ℤ z) (low_lift least) in
            omega (arith, ints, e, times_neg S (ceiling least))

        by_parts : (P : ℤ → Type 0) → (p ≤ℤ at_scale S (ceiling least) → P (pos 0))
            → (at_scale S (ceiling least) <ℤ p → at_scale S (ceiling most) ≤ℤ p → P (pos S *ℤ D))
            → (at_scale S (ceiling least) <ℤ p → P (int_min (pos S *ℤ D) root))
            → P (driven_low_at S D c least most p)
        by_parts P none all part = cond_both (int_le p (at_scale S (ceiling least))) (pos 0)
            (if int_le (at_scale S (ceiling most)) p then (pos S *ℤ D) else int_min (pos S *ℤ D) root) P
            (λ e. none (le-yes p (at_scale S (ceiling least)) e))
            (λ e. cond_both (int_le (at_scale S (ceiling most)) p) (pos S *ℤ D) (int_min (pos S *ℤ D) root) P
            (λ g. all (le-no p (at_scale S (ceiling least)) e) (le-yes (at_scale S (ceiling most)) p g))
            (λ g. part (le-no p (at_scale S (ceiling least)) e)))

        early : at_scale S (ceiling least) <ℤ p → is_at_most (pressure_at S p) least ≡ true → ⊥
        early h held =
            let a = up-to S p least parts.some_least (le-yes (p *ℤ pos least.den) (least.num *ℤ pos S) held) in
            let r : ⊥ = omega (arith, ints, a, h) in r

    high-steps : steps_at_most least most D (part_at_most least c) S p (driven_high_at S D c least most p)
    high-steps = matched (is_at_most (pressure_at S p) least) _ _
        (λ held. by_parts (λ z. pos 0 ≤ℤ z) (λ h. omega (arith, ints)) (λ h g. whole)
        (λ h g. min_is (λ z. pos 0 ≤ℤ z) (pos S *ℤ D) root (λ e. whole)
        (λ e. high-positive S c (p -ℤ at_scale S (floor least)) (omega (arith, ints, h)))))
        (λ fails. matched (is_at_most most (pressure_at S p)) _ _
        (λ held. by_parts (λ z. (pos S *ℤ D) ≤ℤ z) (λ h. absurd (late h fails)) (λ h g. omega (arith, ints))
        (λ h g. absurd (let a = from-on S p most parts.some_most
        (le-yes (most.num *ℤ pos S) (p *ℤ pos most.den) held) in
        omega (arith, ints, a, g))))
        (λ under_it. by_parts (λ z. part_at_most least c S p z)
        (λ h. absurd (late h fails))
        (λ h g. parts.ends S p some (le-no (most.num *ℤ pos S) (p *ℤ pos most.den) under_it))
        (λ h g. min_is (λ z. part_at_most least c S p z) (pos S *ℤ D) root
        (λ e. parts.ends S p some (le-no (most.num *ℤ pos S) (p *ℤ pos most.den) under_it))
        (λ e. subst (λ (z : ℤ). part_at_most least c S p (quadratic_high_at S c z)) place
        (enclosed-above S (Lifted (negated least) (QuadraticLaw c)) p some (parts.some_least, parts.sound))))))
      where
        root : ℤ
        root = quadratic_high_at S c (p -ℤ at_scale S (floor least))

        place : p +ℤ at_scale S (ceiling (negated least)) ≡ p -ℤ at_scale S (floor least)
        place =
            let e = ap (λ (z : ℤ). pos S *ℤ z) (high_lift least) in
            omega (arith, ints, e, times_neg S (floor least))

        by_parts : (P : ℤ → Type 0) → (p ≤ℤ at_scale S (floor least) → P (pos 0))
            → (at_scale S (floor least) <ℤ p → at_scale S (floor most) ≤ℤ p → P (pos S *ℤ D))
            → (at_scale S (floor least) <ℤ p → p <ℤ at_scale S (floor most) → P (int_min (pos S *ℤ D) root))
            → P (driven_high_at S D c least most p)
        by_parts P none all part = cond_both (int_le p (at_scale S (floor least))) (pos 0)
            (if int_le (at_scale S (floor most)) p then (pos S *ℤ D) else int_min (pos S *ℤ D) root) P
            (λ e. none (le-yes p (at_scale S (floor least)) e))
            (λ e. cond_both (int_le (at_scale S (floor most)) p) (pos S *ℤ D) (int_min (pos S *ℤ D) root) P
            (λ g. all (le-no p (at_scale S (floor least)) e) (le-yes (at_scale S (floor most)) p g))
            (λ g. part (le-no p (at_scale S (floor least)) e) (le-no (at_scale S (floor most)) p g)))

        late : p ≤ℤ at_scale S (floor least) → is_at_most (pressure_at S p) least ≡ false → ⊥
        late h fails =
            let a = kept S p least parts.some_least h in
            let b = le-no (p *ℤ pos least.den) (least.num *ℤ pos S) fails in
            let r : ⊥ = omega (arith, ints, a, b) in r

    pub met-demand : (q : ℤ) → (driven_high_at S D c least most p -ℤ tolerance S) ≤ℤ q
        → q ≤ℤ (driven_low_at S D c least most p +ℤ tolerance S) → FollowsPressure least most D c S p q
    met-demand q more less = matched (is_at_most (pressure_at S p) least) _ _
        (λ held. let l = MatchBool-at_true (driven_low_at S D c least most p ≤ℤ pos 0) _ held low-steps in
        let h = MatchBool-at_true (pos 0 ≤ℤ driven_high_at S D c least most p) _ held high-steps in
        record { low = omega (arith, ints, h, more); high = omega (arith, ints, l, less) })
        (λ fails. let l = MatchBool-at_false (driven_low_at S D c least most p ≤ℤ pos 0) _ fails low-steps in
        let h = MatchBool-at_false (pos 0 ≤ℤ driven_high_at S D c least most p) _ fails high-steps in
        matched (is_at_most most (pressure_at S p)) _ _
        (λ held. let m = MatchBool-at_true (driven_low_at S D c least most p ≤ℤ (pos S *ℤ D)) _ held l in
        let n = MatchBool-at_true ((pos S *ℤ D) ≤ℤ driven_high_at S D c least most p) _ held h in
        record { low = omega (arith, ints, n, more); high = omega (arith, ints, m, less) })
        (λ under_it. record {
          at_least = down-at S (Lifted (negated least) (QuadraticLaw c)) p (driven_low_at S D c least most p)
              (q -ℤ tolerance S) some (parts.some_least, parts.sound) (omega (arith, ints, less))
              (MatchBool-at_false (driven_low_at S D c least most p ≤ℤ (pos S *ℤ D)) _ under_it l);
          at_most = up-at S (Lifted (negated least) (QuadraticLaw c)) p (driven_high_at S D c least most p)
              (q +ℤ tolerance S) some (parts.some_least, parts.sound) (omega (arith, ints, more))
              (MatchBool-at_false ((pos S *ℤ D) ≤ℤ driven_high_at S D c least most p) _ under_it h);
        }))
