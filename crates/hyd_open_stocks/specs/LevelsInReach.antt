-- Levels that a tank may reach.
use Rattle.std.specs.Prelude.{ℤ, pos, ◌<ℤ◌, ◌≤ℤ◌, Bool, true, false}
use Rattle.hyd_net.specs.NumberRanges.{Lies}
use Rattle.hyd_spec.specs.ProgramTypes.{Tank}
use Rattle.hyd_spec.specs.Tank.{Walls, Cylinder, Curve}
use Rattle.hyd_spec_certificates.specs.Interval.{Interval}

-- A tank rises to no level below its minimum and falls to none above its maximum. One with a volume curve reaches none
-- beyond its bounds; a cylinder's exact level may, where the inflow goes there.
abbrev pub IsInReach : Walls → Tank → Interval → ℤ → Bool → Type 0
IsInReach (Cylinder area) tank inflow target true =
    (tank.minimum ≤ℤ target) × (tank.maximum <ℤ target → pos 0 ≤ℤ inflow.hi)
IsInReach (Cylinder area) tank inflow target false =
    (target ≤ℤ tank.maximum) × (target <ℤ tank.minimum → inflow.lo ≤ℤ pos 0)
IsInReach (Curve points) tank inflow target rising = Lies tank.minimum tank.maximum target
