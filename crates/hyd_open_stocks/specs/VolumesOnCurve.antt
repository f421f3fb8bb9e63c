-- Points of a volume curve that are next to each other, and levels on the curve.
use Rattle.std.specs.Prelude.{ℕ, ◌-◌, ◌^◌, ◌≤◌, ℤ, pos, ◌<ℤ◌, ◌≤ℤ◌, unsigned_abs, List, length}
use Rattle.std.specs.List.{HoldsAt}
use Rattle.hyd_net.specs.Curves.{Knot}
use Rattle.hyd_net.specs.NumberRanges.{volume_limit}
use Rattle.hyd_spec.specs.ProgramTypes.{VolumePoint}

-- a point as a knot: the volume at its level
abbrev pub knot_at : VolumePoint → Knot
knot_at point = record { place = point.level; value = point.volume }

-- one point comes right after another, both in range
pub record AreNeighbours (first second : VolumePoint) : Type 0 where
  pub higher : first.level <ℤ second.level
  pub fuller : first.volume <ℤ second.volume
  pub low : unsigned_abs first.level ≤ 10 ^ 17
  pub high : unsigned_abs second.level ≤ 10 ^ 17
  pub some : pos 0 ≤ℤ first.volume
  pub most : second.volume ≤ℤ pos volume_limit

-- a level lies on the curve through some points
pub record IsOnCurve (points : List VolumePoint) (level : ℤ) : Type 0 where
  pub from_first : HoldsAt (λ (point : VolumePoint). point.level ≤ℤ level) points 0
  pub to_last : HoldsAt (λ (point : VolumePoint). level ≤ℤ point.level) points (length points - 1)
