-- Curves of pumps, by the count of their points.
use Rattle.std.proofs.Common.{◌≡◌, ◌^◌, Bool, true, List, [], ◌∷◌, length, get_or, pos, ◌-ℤ◌, refl, arith}
use Rattle.std.specs.Prelude.{◌&&◌}
use lib.Signed.{le_z}
use Rattle.hyd_num.specs.FileQuantity.{head_ticks}
use Rattle.hyd_spec_input.specs.Curves as curve
use Rattle.hyd_curves.specs.Points.{points_in}
use Rattle.hyd_curves.specs.declared.points.CurvePoint.{CurvePoint}

-- neither one point nor three
pub other_shutoff : (us : Bool) (points : List CurvePoint) → (length points ≡ 1 → ⊥) → (length points ≡ 3 → ⊥)
    → true ≡ curve.has_shutoff us (points_in points)
other_shutoff us [] one three = refl
other_shutoff us (a ∷ []) one three = absurd (one refl)
other_shutoff us (a ∷ b ∷ []) one three = refl
other_shutoff us (a ∷ b ∷ c ∷ []) one three = absurd (three refl)
other_shutoff us (a ∷ b ∷ c ∷ d ∷ points) one three = refl

pub three_shutoff : (us : Bool) (points : List CurvePoint) (a b : CurvePoint) → length points ≡ 3
    → a ≡ get_or points 0 a → b ≡ get_or points 1 b
    → (curve.is_within (10 ^ 16) (head_ticks us a.y.nano) && le_z (a.y.nano -ℤ b.y.nano) (pos (10 ^ 21)))
    ≡ curve.has_shutoff us (points_in points)
three_shutoff us [] a b n e f = absurd (omega arith)
three_shutoff us (p ∷ []) a b n e f = absurd (omega arith)
three_shutoff us (p ∷ q ∷ []) a b n e f = absurd (omega arith)
three_shutoff us (p ∷ q ∷ r ∷ []) a b n e f = rw (e, f) refl
three_shutoff us (p ∷ q ∷ r ∷ s ∷ points) a b n e f = absurd (omega arith)
