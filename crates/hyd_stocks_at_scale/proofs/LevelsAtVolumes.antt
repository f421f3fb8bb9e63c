-- Which levels go with a volume, by where it lies.
use Rattle.std.proofs.Common.{◌≡◌, ℕ, ◌↔◌, ℤ, pos, ◌*ℤ◌, ◌≤ℤ◌, ◌<ℤ◌, List, ap, subst, ◌∙◌, arith}
use Rattle.std.proofs.lemmas.Int.{ints}
use Rattle.hyd_num.proofs.Integers.{one_times}
use Rattle.hyd_num.specs.Rational.{Rational, whole}
use Rattle.hyd_net.specs.Curves.{value_at, volume_at}
use Rattle.hyd_spec.specs.ProgramTypes.{Tank, VolumePoint}
use Rattle.hyd_spec.specs.Tank.{Bounds, Curve, IsNear, IsLevelAt, placed, level_bounds, content_bounds, level_knots}
use Rattle.hyd_spec.specs.Tank.{level_on_curve, level_at_volume}
use Rattle.hyd_stocks_at_scale.proofs.NextContents.{placed_full, placed_empty, placed_near}
use Rattle.hyd_stocks_at_scale.proofs.NearLevels.{level_at_whole}

module _ (S : ℕ) (points : List VolumePoint) (tank : Tank) (volume level : ℤ) where
  abbrev inside : Rational
  inside = level_at_volume S points tank (whole volume)

  pub level_full : (pos S *ℤ volume_at points tank.maximum) ≤ℤ volume → IsLevelAt S points tank volume level ↔
      (level ≡ pos S *ℤ tank.maximum)
  level_full h = placed_full S (content_bounds (Curve points) tank) (level_bounds tank) (whole volume) inside level
      (omega (arith, ints, h, one_times (pos S *ℤ volume_at points tank.maximum)))

  pub level_empty : volume <ℤ (pos S *ℤ volume_at points tank.maximum)
      → volume ≤ℤ (pos S *ℤ volume_at points tank.minimum) → IsLevelAt S points tank volume level ↔
      (level ≡ pos S *ℤ tank.minimum)
  level_empty s h = placed_empty S (content_bounds (Curve points) tank) (level_bounds tank) (whole volume) inside level
      (omega (arith, ints, s, one_times (pos S *ℤ volume_at points tank.maximum)))
      (omega (arith, ints, h, one_times (pos S *ℤ volume_at points tank.minimum)))

  pub level_near : volume <ℤ (pos S *ℤ volume_at points tank.maximum)
      → (pos S *ℤ volume_at points tank.minimum) <ℤ volume → IsLevelAt S points tank volume level ↔
      IsNear S (level_bounds tank) inside level
  level_near s h = placed_near S (content_bounds (Curve points) tank) (level_bounds tank) (whole volume) inside level
      (omega (arith, ints, s, one_times (pos S *ℤ volume_at points tank.maximum)))
      (omega (arith, ints, h, one_times (pos S *ℤ volume_at points tank.minimum)))

-- the level on the curve, as it is read
pub level_read : (S T : ℕ) (points : List VolumePoint) (volume x : ℤ) (v : Rational) → T ≡ S → x ≡ volume
    → v ≡ value_at T (level_knots points) x → v ≡ level_on_curve S points (whole volume)
level_read S T points volume x v e f g =
    g ∙ ap (λ (k : ℕ). value_at k (level_knots points) x) e
    ∙ ap (λ (z : ℤ). value_at S (level_knots points) z) f ∙ level_at_whole S points volume

-- near the same by equal bounds, values and numbers
pub near_held_along : (S : ℕ) (a b : Bounds) (u v : Rational) (n k : ℤ) → a ≡ b → u ≡ v → n ≡ k
    → IsNear S a (placed S a a u u) n → IsNear S b (placed S b b v v) k
near_held_along S a b u v n k e f g is =
    subst (λ (z : ℤ). IsNear S b (placed S b b v v) z) g
    (subst (λ (r : Rational). IsNear S b (placed S b b r r) n) f
    (subst (λ (c : Bounds). IsNear S c (placed S c c u u) n) e is))
