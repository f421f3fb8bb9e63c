-- At scale 1 the enclosing functions of a scale are those of whole ticks.
use Rattle.std.proofs.Common.{◌≡◌, ℕ, suc, ◌*◌, ℤ, pos, negsuc, ◌+ℤ◌, neg_ℤ, refl, ap, ◌∙◌, arith}
use Rattle.std.specs.Int.{int_max, int_min}
use Rattle.hyd_num.specs.Rational.{floor, ceiling}
use Rattle.hyd_spec.specs.Scale.{at_scale}
use Rattle.hyd_spec.specs.Law.{Law, Shut, QuadraticLaw, LinearLaw, Lifted, ForwardOnly, ReverseOnly, Capped, Bent, Held}
use Rattle.hyd_spec.specs.Law.{PowerLaw}
use Rattle.hyd_spec.specs.ProgramTypes.{Capacity}
use Rattle.hyd_num.specs.BinaryNumbers.{numerator, denominator}
use Rattle.hyd_spec_certificates.specs.EnclosingFunctions.{root_down, root_up, quadratic_low, quadratic_high, low, high}
use Rattle.hyd_spec_witnesses.specs.EnclosingFunctionsAtScale.{quadratic_low_at, quadratic_high_at, low_at, high_at}
use Rattle.hyd_num.proofs.Integers.{one_times}
use Rattle.hyd_theorems_on_power_laws.proofs.AtScaleOne as power

one-fold : (N d : ℕ) → (1 * N) * d ≡ N * d
one-fold N d = omega arith

quad-low : (c : Capacity) (d : ℤ) → quadratic_low_at 1 c d ≡ quadratic_low c d
quad-low c (pos d) = ap (λ (n : ℕ). pos (root_down n (denominator c.lo))) (one-fold (numerator c.lo) d)
quad-low c (negsuc d) = ap (λ (n : ℕ). neg_ℤ (pos (root_up n (denominator c.hi)))) (one-fold (numerator c.hi) (suc d))

quad-high : (c : Capacity) (d : ℤ) → quadratic_high_at 1 c d ≡ quadratic_high c d
quad-high c (pos d) = ap (λ (n : ℕ). pos (root_up n (denominator c.hi))) (one-fold (numerator c.hi) d)
quad-high c (negsuc d) = ap (λ (n : ℕ). neg_ℤ (pos (root_down n (denominator c.lo))))
    (one-fold (numerator c.lo) (suc d))

pub low-at-one : (law : Law) (d : ℤ) → low_at 1 law d ≡ low law d
low-at-one Shut d = refl
low-at-one (QuadraticLaw c) d = quad-low c d
low-at-one (PowerLaw c) d = power.low-at-one c d
low-at-one LinearLaw d = refl
low-at-one (Lifted lift law) d = ap (λ (z : ℤ). low_at 1 law (d +ℤ z)) (one_times (floor lift))
    ∙ low-at-one law (d +ℤ floor lift)
low-at-one (ForwardOnly law) d = ap (int_max (pos 0)) (low-at-one law d)
low-at-one (ReverseOnly law) d = ap (int_min (pos 0)) (low-at-one law d)
low-at-one (Capped setting law) d = ap (λ (z : ℤ). int_min z (low_at 1 law d)) (one_times setting)
    ∙ ap (int_min setting) (low-at-one law d)
low-at-one (Bent knots) d = refl
low-at-one (Held least greatest law) d =
    ap (λ (z : ℤ). int_max z (int_min (at_scale 1 greatest) (low_at 1 law d))) (one_times least)
    ∙ ap (λ (z : ℤ). int_max least (int_min z (low_at 1 law d))) (one_times greatest)
    ∙ ap (λ (z : ℤ). int_max least (int_min greatest z)) (low-at-one law d)

pub high-at-one : (law : Law) (d : ℤ) → high_at 1 law d ≡ high law d
high-at-one Shut d = refl
high-at-one (QuadraticLaw c) d = quad-high c d
high-at-one (PowerLaw c) d = power.high-at-one c d
high-at-one LinearLaw d = refl
high-at-one (Lifted lift law) d = ap (λ (z : ℤ). high_at 1 law (d +ℤ z)) (one_times (ceiling lift))
    ∙ high-at-one law (d +ℤ ceiling lift)
high-at-one (ForwardOnly law) d = ap (int_max (pos 0)) (high-at-one law d)
high-at-one (ReverseOnly law) d = ap (int_min (pos 0)) (high-at-one law d)
high-at-one (Capped setting law) d = ap (λ (z : ℤ). int_min z (high_at 1 law d)) (one_times setting)
    ∙ ap (int_min setting) (high-at-one law d)
high-at-one (Bent knots) d = refl
high-at-one (Held least greatest law) d =
    ap (λ (z : ℤ). int_max z (int_min (at_scale 1 greatest) (high_at 1 law d))) (one_times least)
    ∙ ap (λ (z : ℤ). int_max least (int_min z (high_at 1 law d))) (one_times greatest)
    ∙ ap (λ (z : ℤ). int_max least (int_min greatest z)) (high-at-one law d)
