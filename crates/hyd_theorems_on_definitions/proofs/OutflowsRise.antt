-- The enclosing functions of demands and emitters rise with the pressure.
use Rattle.std.proofs.Common.{ℤ, pos, negsuc, ◌-ℤ◌, ◌≤ℤ◌, ◌<ℤ◌, arith}
use Rattle.std.specs.Prelude.{Option, Some, None, int_le, if◌then◌else◌}
use Rattle.std.specs.Int.{int_min}
use Rattle.std.proofs.lemmas.Int.{ints}
use Rattle.std.proofs.lemmas.Bool.{cond_both}
use Rattle.hyd_num.specs.BinaryNumbers.{numerator, denominator}
use Rattle.hyd_num.specs.Rational.{floor, ceiling}
use Rattle.hyd_spec.specs.ProgramTypes.{Capacity}
use Rattle.hyd_spec_certificates.specs.EnclosingFunctions.{DemandLaw, Fixed, Driven, demand_low, demand_high}
use Rattle.hyd_spec_certificates.specs.EnclosingFunctions.{emitter_low, emitter_high, quadratic_low, quadratic_high}
use Rattle.hyd_num.proofs.EndsInOrder.{denominator_positive}
use Rattle.hyd_theorems_on_definitions.specs.SoundLawsAndGrids.{AreRising, IsSoundDemand}
use Rattle.hyd_lemmas.proofs.Integers.{floor_at_most_ceiling, min_left, min_rises, min_is}
use Rattle.hyd_lemmas.proofs.BooleanTests.{le-yes, le-no}
use Rattle.hyd_theorems_on_definitions.proofs.LinkLaws.{low-rises, high-rises, roots-ordered}
use Rattle.hyd_theorems_on_definitions.proofs.EachLaw.{low_is, high_is}
use Rattle.hyd_theorems_on_definitions.proofs.Outflows.{high-positive}
use Rattle.hyd_theorems_on_definitions.specs.PressureDrivenDemand.{stepped}

pub AreRising-quad : (c : Capacity) → AreRising (quadratic_low c) (quadratic_high c)
AreRising-quad c = record {
  low_rises = λ x d le. rw (low_is c x, low_is c d) (low-rises (numerator c.lo) (denominator c.lo) (numerator c.hi)
      (denominator c.hi) (denominator_positive c.lo) (denominator_positive c.hi) x d le);
  high_rises = λ x d le. rw (high_is c x, high_is c d) (high-rises (numerator c.lo) (denominator c.lo)
      (numerator c.hi) (denominator c.hi) (denominator_positive c.lo) (denominator_positive c.hi) x d le);
  ordered = λ d. rw (low_is c d, high_is c d) (roots-ordered (numerator c.lo) (denominator c.lo) (numerator c.hi)
      (denominator c.hi) (denominator_positive c.lo) (denominator_positive c.hi) c.ordered d);
}

low-positive : (c : Capacity) (z : ℤ) → pos 0 ≤ℤ z → pos 0 ≤ℤ quadratic_low c z
low-positive c (pos n) le = omega (arith, ints)
low-positive c (negsuc n) le = absurd (omega (arith, ints))

stepped-is : (P : ℤ → Type 0) (D m r : ℤ) (f : ℤ → ℤ) (p : ℤ) → (p ≤ℤ m → P (pos 0)) → (m <ℤ p → r ≤ℤ p → P D)
    → (m <ℤ p → p <ℤ r → P (int_min D (f (p -ℤ m))))
    → P (stepped D m r f p)
stepped-is P D m r f p none whole part =
    cond_both (int_le p m) (pos 0) (if int_le r p then D else int_min D (f (p -ℤ m))) P (λ e. none (le-yes p m e))
    (λ e. cond_both (int_le r p) D (int_min D (f (p -ℤ m))) P (λ g. whole (le-no p m e) (le-yes r p g))
    (λ g. part (le-no p m e) (le-no r p g)))

stepped-positive : (D m r : ℤ) (f : ℤ → ℤ) (p : ℤ) → pos 0 ≤ℤ D → ((z : ℤ) → pos 0 ≤ℤ z → pos 0 ≤ℤ f z)
    → pos 0 ≤ℤ stepped D m r f p
stepped-positive D m r f p some positive = stepped-is (λ z. pos 0 ≤ℤ z) D m r f p (λ h. omega (arith, ints))
    (λ h l. some)
    (λ h l. min_is (λ z. pos 0 ≤ℤ z) D (f (p -ℤ m)) (λ e. some) (λ e. positive (p -ℤ m) (omega (arith, ints, h))))

stepped-rises : (D m r : ℤ) (f : ℤ → ℤ) (p q : ℤ) → pos 0 ≤ℤ D → ((z : ℤ) → pos 0 ≤ℤ z → pos 0 ≤ℤ f z)
    → ((c d : ℤ) → c ≤ℤ d → f c ≤ℤ f d) → p ≤ℤ q
    → stepped D m r f p ≤ℤ stepped D m r f q
stepped-rises D m r f p q some positive rises le = stepped-is (λ z. z ≤ℤ stepped D m r f q) D m r f p
    (λ h. stepped-positive D m r f q some positive)
    (λ h l. stepped-is (λ z. D ≤ℤ z) D m r f q (λ g. absurd (omega (arith, ints, h, g, le)))
    (λ g k. omega (arith, ints)) (λ g k. absurd (omega (arith, ints, l, k, le))))
    (λ h l. stepped-is (λ z. int_min D (f (p -ℤ m)) ≤ℤ z) D m r f q (λ g. absurd (omega (arith, ints, h, g, le)))
    (λ g k. min_left D (f (p -ℤ m)))
    (λ g k. min_rises D (f (p -ℤ m)) (f (q -ℤ m)) (rises (p -ℤ m) (q -ℤ m) (omega (arith, ints, le)))))

stepped-ordered : (D m m' r r' : ℤ) (f g : ℤ → ℤ) (p : ℤ) → pos 0 ≤ℤ D → m' ≤ℤ m → r' ≤ℤ r
    → ((z : ℤ) → pos 0 ≤ℤ z → pos 0 ≤ℤ g z)
    → ((c d : ℤ) → c ≤ℤ d → f c ≤ℤ f d) → ((d : ℤ) → f d ≤ℤ g d) → stepped D m r f p ≤ℤ stepped D m' r' g p
stepped-ordered D m m' r r' f g p some lower sooner positive rises ordered = stepped-is
    (λ z. z ≤ℤ stepped D m' r' g p) D m r f p
    (λ h. stepped-positive D m' r' g p some positive)
    (λ h l. stepped-is (λ z. D ≤ℤ z) D m' r' g p (λ k. absurd (omega (arith, ints, h, k, lower)))
    (λ k n. omega (arith, ints)) (λ k n. absurd (omega (arith, ints, l, n, sooner))))
    (λ h l. stepped-is (λ z. int_min D (f (p -ℤ m)) ≤ℤ z) D m' r' g p (λ k. absurd (omega (arith, ints, h, k, lower)))
    (λ k n. min_left D (f (p -ℤ m)))
    (λ k n. min_rises D (f (p -ℤ m)) (g (p -ℤ m'))
    (let a = rises (p -ℤ m) (p -ℤ m') (omega (arith, ints, lower)) in let b = ordered (p -ℤ m') in
    omega (arith, ints, a, b))))

pub AreRising-demand : (law : DemandLaw) → IsSoundDemand law → AreRising (demand_low law) (demand_high law)
AreRising-demand (Fixed demand) sound = record {
  low_rises = λ c d le. omega (arith, ints);
  high_rises = λ c d le. omega (arith, ints);
  ordered = λ d. omega (arith, ints);
}
AreRising-demand (Driven demand capacity minimum required) sound = record {
  low_rises = λ c d le. stepped-rises demand (ceiling minimum) (ceiling required) (quadratic_low capacity) c d sound.0
      (low-positive capacity) (AreRising-quad capacity).low_rises le;
  high_rises = λ c d le. stepped-rises demand (floor minimum) (floor required) (quadratic_high capacity) c d sound.0
      (high-positive capacity) (AreRising-quad capacity).high_rises le;
  ordered = λ d. stepped-ordered demand (ceiling minimum) (floor minimum) (ceiling required) (floor required)
      (quadratic_low capacity) (quadratic_high capacity) d sound.0
      (floor_at_most_ceiling minimum sound.1.0) (floor_at_most_ceiling required sound.1.1) (high-positive capacity)
      (AreRising-quad capacity).low_rises (AreRising-quad capacity).ordered;
}

pub AreRising-emitter : (emitter : Option Capacity) → AreRising (emitter_low emitter) (emitter_high emitter)
AreRising-emitter None = record {
  low_rises = λ c d le. omega (arith, ints);
  high_rises = λ c d le. omega (arith, ints);
  ordered = λ d. omega (arith, ints);
}
AreRising-emitter (Some capacity) = AreRising-quad capacity
