-- Targets of a tank with a volume curve, as volumes.
use Rattle.std.specs.Prelude.{◌≡◌, ◌⊎◌, ℕ, ◌^◌, ◌≤◌, ℤ, pos, ◌+ℤ◌, ◌*ℤ◌, ◌≤ℤ◌, Bool, true, false, IsTrue, ◌↔◌}
use Rattle.std.specs.Prelude.{unsigned_abs, ⊤, List, length, ◌-◌}
use Rattle.std.specs.List.{HoldsAt}
use Rattle.hyd_spec.specs.ProgramTypes.{Tank, VolumePoint}
use Rattle.hyd_spec.specs.Tank.{Stock, Curve, content_bounds, has_reached}
use Rattle.hyd_spec.specs.PeriodLength.{IsLeast}
use Rattle.hyd_tank.specs.declared.contents_of_tanks.Bounds.{Bounds as Limits}
use Rattle.hyd_tank.specs.Contents.{bounds_of, AreBounds}
use Rattle.hyd_tank.specs.declared.first_second_at_target.Target.{Target}
use Rattle.hyd_tank.specs.declared.first_second_at_target.Target.TheVariants.{Always, Never, Parts}

-- the volumes at a tank's minimum and maximum, which lie on the curve
pub record AreVolumes (tank : Tank) (points : List VolumePoint) (volumes : Limits) : Type 0 where
  pub value : bounds_of volumes ≡ content_bounds (Curve points) tank
  pub range : AreBounds volumes
  pub from_first : HoldsAt (λ (p : VolumePoint). p.volume ≤ℤ volumes.least) points 0
  pub to_last : HoldsAt (λ (p : VolumePoint). volumes.most ≤ℤ p.volume) points (length points - 1)

-- ---- targets

-- a volume in parts has met a target
abbrev pub Meets : Bool → Target → ℤ → Type 0
Meets rising Always volume = ⊤
Meets rising Never volume = ⊥
Meets true (Parts parts) volume = parts ≤ℤ volume
Meets false (Parts parts) volume = volume ≤ℤ parts

-- the target, where it is a volume, is one that a tank may have
abbrev pub IsSmall : Target → Type 0
IsSmall Always = ⊤
IsSmall Never = ⊤
IsSmall (Parts parts) = unsigned_abs parts ≤ 10 ^ 22

-- a target volume stands for a target level: the tank has reached the level exactly where its volume has met that
-- target
abbrev pub StandsFor : Tank → List VolumePoint → ℤ → Bool → Target → Type 0
StandsFor tank points level rising target = (stock : Stock) (q : ℤ) (seconds : ℕ)
    → IsTrue (has_reached 1 (Curve points) tank stock q rising level seconds)
    ↔ Meets rising target ((pos 864 *ℤ stock.volume) +ℤ (pos seconds *ℤ q))

-- the first second at which a volume has met a target, or the cap
abbrev pub IsFirstMet : ℤ → ℤ → Target → Bool → ℕ → ℕ → Type 0
IsFirstMet volume q target rising cap second =
    IsLeast (λ s. (s ≡ cap) ⊎ ((1 ≤ s) × Meets rising target ((pos 864 *ℤ volume) +ℤ (pos s *ℤ q)))) second
