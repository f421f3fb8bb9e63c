-- Walls that hold water, and tanks whose contents are in order.
use Rattle.std.specs.Prelude.{map, ◌<◌, ◌≤◌, ℤ, ◌≤ℤ◌}
use Rattle.hyd_spec.specs.ProgramTypes.{Tank, VolumePoint}
use Rattle.hyd_net.specs.Curves.{AreRising as AreRisingNumbers}
use Rattle.hyd_spec.specs.Tank.{Walls, Cylinder, Curve, content_bounds}

-- Walls hold water: a cylinder has an area; the levels of a volume curve rise, and so do its volumes.
abbrev pub HoldWater : Walls → Type 0
HoldWater (Cylinder area) = 0 < area
HoldWater (Curve points) =
    AreRisingNumbers (map (λ (p : VolumePoint). p.level) points)
    × AreRisingNumbers (map (λ (p : VolumePoint). p.volume) points)

-- A tank's walls hold water; its minimum is at most its maximum, and so is the content there.
pub record IsVessel (walls : Walls) (tank : Tank) : Type 0 where
  pub holds_water : HoldWater walls
  pub ordered : tank.minimum ≤ℤ tank.maximum
  pub contents_ordered : (content_bounds walls tank).least ≤ℤ (content_bounds walls tank).most
