-- The same stocks by equal numbers.
use Rattle.std.proofs.Common.{◌≡◌, ℕ, ℤ, List, subst}
use Rattle.hyd_num.specs.Rational.{Rational}
use Rattle.hyd_spec.specs.ProgramTypes.{Tank, VolumePoint}
use Rattle.hyd_spec.specs.Tank.{Bounds, IsPlaced, IsLevelAt}

pub content_along : (S : ℕ) (a b : Bounds) (x : Rational) (y z : ℤ) → a ≡ b → y ≡ z → IsPlaced S a a x x y
    → IsPlaced S b b x x z
content_along S a b x y z e f is =
    subst (λ (n : ℤ). IsPlaced S b b x x n) f (subst (λ (k : Bounds). IsPlaced S k k x x y) e is)

pub level_along : (S : ℕ) (points : List VolumePoint) (tank : Tank) (u v k l : ℤ) → u ≡ v → k ≡ l
    → IsLevelAt S points tank u k → IsLevelAt S points tank v l
level_along S points tank u v k l e f is =
    subst (λ (n : ℤ). IsLevelAt S points tank v n) f (subst (λ (n : ℤ). IsLevelAt S points tank n k) e is)
