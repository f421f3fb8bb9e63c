-- Contents of tanks at a scale: in whole ticks, and near others.
use Rattle.std.specs.Prelude.{◌≡◌, ℕ, ◌-◌, ℤ, pos, ◌+ℤ◌, ◌-ℤ◌, ◌*ℤ◌, ◌<ℤ◌, ◌≤ℤ◌, List, length}
use Rattle.std.specs.List.{HoldsAt}
use Rattle.hyd_net.specs.NumberRanges.{volume_limit}
use Rattle.hyd_spec.specs.Scale.{at_scale, missed_stock_ticks}
use Rattle.hyd_spec.specs.ProgramTypes.{Tank, VolumePoint}
use Rattle.hyd_spec.specs.Tank.{Bounds, Curve, content_bounds}
use Rattle.hyd_stocks_at_scale.specs.declared.contents.Bounds.{Bounds as Limits}

-- the bounds that the code's stand for
abbrev pub bounds_of : Limits → Bounds
bounds_of limits = record { least = limits.least; most = limits.most }

-- bounds of levels or volumes, in ticks, from 0 to the limit of volumes (levels keep to a lesser one)
pub record AreBounds (bounds : Limits) : Type 0 where
  pub from : pos 0 ≤ℤ bounds.least
  pub apart : bounds.least <ℤ bounds.most
  pub up_to : bounds.most ≤ℤ pos volume_limit

-- a content lies within ten ticks of so many shares
pub record IsNearBy (S : ℕ) (breadth next shares : ℤ) : Type 0 where
  pub below : (breadth *ℤ (next -ℤ at_scale S (pos missed_stock_ticks))) ≤ℤ shares
  pub above : shares ≤ℤ (breadth *ℤ (next +ℤ at_scale S (pos missed_stock_ticks)))

-- the volumes at a tank's minimum and maximum, which lie on the curve
pub record AreVolumes (tank : Tank) (points : List VolumePoint) (volumes : Limits) : Type 0 where
  pub value : bounds_of volumes ≡ content_bounds (Curve points) tank
  pub range : AreBounds volumes
  pub from_first : HoldsAt (λ (p : VolumePoint). p.volume ≤ℤ volumes.least) points 0
  pub to_last : HoldsAt (λ (p : VolumePoint). volumes.most ≤ℤ p.volume) points (length points - 1)
