-- Quadratic laws: what the roots of the code are, and that both laws rise with the head difference.
use Rattle.std.proofs.Common.{◌≡◌, ℕ, suc, ◌*◌, ◌^◌, ◌<◌, ◌≤◌, ℤ, pos, negsuc, neg_ℤ, ◌≤ℤ◌, ◌<ℤ◌, unsigned_abs, ap}
use Rattle.std.proofs.Common.{subst, arith}
use Rattle.std.proofs.Math.Nat.{mul-le-mul_right, le_of_mul-le-mul_right}
use Rattle.std.proofs.lemmas.Int.{ints}
use Rattle.hyd_num.specs.declared.binary.Scaled.{Scaled}
use Rattle.hyd_num.specs.BinaryNumbers.{numerator, denominator}
use Rattle.hyd_num.specs.QuotientsAndRoots.{IsSquareRootDown, IsSquareRootUp}
use Rattle.hyd_spec.specs.ProgramTypes.{Capacity}
use Rattle.hyd_spec_certificates.specs.EnclosingFunctions.{root_down, root_up, quadratic_low, quadratic_high}
use Rattle.hyd_num.proofs.EndsInOrder.{denominator_positive}
use Rattle.hyd_theorems_on_definitions.proofs.Roots.{down_is, up_is}

-- ---- the capacity's upper end is at least its lower one

least_over : (nl dl nh dh : ℕ) → 0 < dl → nl * dh ≤ nh * dl → dl ≤ nl * 2 ^ 61 → dh ≤ nh * 2 ^ 61
least_over nl dl nh dh above ordered least =
    let l : dl * dh ≤ nl * 2 ^ 61 * dh = mul-le-mul_right dh least in
    let m : dh * dl ≤ nh * 2 ^ 61 * dl = omega (arith, l, ordered) in
    le_of_mul-le-mul_right m above

pub upper_least : (c : Capacity) → denominator c.hi ≤ numerator c.hi * 2 ^ 61
upper_least c = least_over (numerator c.lo) (denominator c.lo) (numerator c.hi) (denominator c.hi)
    (denominator_positive c.lo)
    c.ordered c.least

-- ---- the roots are those of the laws

down_at : (s : Scaled) (d m r : ℕ) → m ≡ d → IsSquareRootDown (numerator s * m) (denominator s) r
    → r ≡ root_down (numerator s * d) (denominator s)
down_at s d m r e root = subst (λ (n : ℕ). r ≡ root_down (numerator s * n) (denominator s)) e
    (down_is _ _ r (denominator_positive s) root)

up_at : (s : Scaled) (d m r : ℕ) → m ≡ d → IsSquareRootUp (numerator s * m) (denominator s) r
    → r ≡ root_up (numerator s * d) (denominator s)
up_at s d m r e root = subst (λ (n : ℕ). r ≡ root_up (numerator s * n) (denominator s)) e
    (up_is _ _ r (denominator_positive s) root)

pub low_forward : (c : Capacity) (d : ℤ) (m r : ℕ) → pos 0 ≤ℤ d → m ≡ unsigned_abs d
    → IsSquareRootDown (numerator c.lo * m) (denominator c.lo) r → pos r ≡ quadratic_low c d
low_forward c (pos d) m r le e root = ap pos (down_at c.lo d m r e root)
low_forward c (negsuc d) m r le e root = absurd (omega (arith, ints, le))

pub low_reverse : (c : Capacity) (d : ℤ) (m r : ℕ) → d <ℤ pos 0 → m ≡ unsigned_abs d
    → IsSquareRootUp (numerator c.hi * m) (denominator c.hi) r → neg_ℤ (pos r) ≡ quadratic_low c d
low_reverse c (pos d) m r lt e root = absurd (omega (arith, ints, lt))
low_reverse c (negsuc d) m r lt e root = ap (λ (n : ℕ). neg_ℤ (pos n)) (up_at c.hi (suc d) m r e root)

pub high_forward : (c : Capacity) (d : ℤ) (m r : ℕ) → pos 0 ≤ℤ d → m ≡ unsigned_abs d
    → IsSquareRootUp (numerator c.hi * m) (denominator c.hi) r → pos r ≡ quadratic_high c d
high_forward c (pos d) m r le e root = ap pos (up_at c.hi d m r e root)
high_forward c (negsuc d) m r le e root = absurd (omega (arith, ints, le))

pub high_reverse : (c : Capacity) (d : ℤ) (m r : ℕ) → d <ℤ pos 0 → m ≡ unsigned_abs d
    → IsSquareRootDown (numerator c.lo * m) (denominator c.lo) r → neg_ℤ (pos r) ≡ quadratic_high c d
high_reverse c (pos d) m r lt e root = absurd (omega (arith, ints, lt))
high_reverse c (negsuc d) m r lt e root = ap (λ (n : ℕ). neg_ℤ (pos n)) (down_at c.lo (suc d) m r e root)
