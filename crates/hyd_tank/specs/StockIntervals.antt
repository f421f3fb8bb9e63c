-- What the spans and stocks of the calls stand for, and what is asked of them.
use Rattle.std.specs.Prelude.{◌≡◌, ◌*◌, ◌^◌, ◌≤◌, ℤ, pos, ◌<ℤ◌, ◌≤ℤ◌, unsigned_abs, None, List, ◌<◌, length}
use Rattle.std.specs.Prelude.{MatchOption}
use Rattle.hyd_num.specs.declared.spans.Span.{Span}
use Rattle.hyd_net.specs.NumberRanges.{Lies, head_limit}
use Rattle.hyd_net.specs.NetworkRanges.{IsShapeOf}
use Rattle.hyd_spec.specs.ProgramTypes.{Project, Tank, VolumePoint}
use Rattle.hyd_spec.specs.Tank.{Stock as OneStock, Walls, Cylinder, Bounds, level_bounds, kept_volume, shape_points}
use Rattle.hyd_spec_certificates.specs.SpansAsIntervals.{levels_of}
use Rattle.hyd_spec_certificates.specs.Interval.{Interval, exactly}
use Rattle.hyd_spec_certificates.specs.Stocks.{Stocks}
use Rattle.hyd_theorems_on_definitions.specs.LyingInIntervals.{IsWithin}
use Rattle.hyd_spec_certificates.specs.declared.LevelSpan.{LevelSpan}
use Rattle.hyd_tank.specs.declared.stock_intervals.VolumeSpan.{VolumeSpan}
use Rattle.hyd_tank.specs.declared.stock_intervals.Stock.{Stock}

-- ---- intervals

abbrev pub volumes_of : VolumeSpan → Interval
volumes_of volume = record { lo = volume.lo; hi = volume.hi }

abbrev pub stocks_of : Stock → Stocks
stocks_of stock = record { level = levels_of stock.level; volume = volumes_of stock.volume }

-- the stocks of a tank without a volume curve at these levels
abbrev pub stocks_at : LevelSpan → Stocks
stocks_at level = record { level = levels_of level; volume = exactly (pos 0) }

-- its stocks at an interval of levels
abbrev pub with_levels : Interval → Stocks
with_levels level = record { level = level; volume = exactly (pos 0) }

-- one stock of it
abbrev pub level_stock : ℤ → OneStock
level_stock level = record { level = level; volume = pos 0 }

-- its walls
abbrev pub cylinder : Tank → Walls
cylinder tank = Cylinder (unsigned_abs tank.area)

-- the stocks with which a run begins: exactly the initial level, and exactly the volume that is kept at it
abbrev pub initial_stocks : Walls → Tank → Stocks
initial_stocks walls tank =
    record { level = exactly tank.initial; volume = exactly (kept_volume walls tank.initial) }

-- ---- what is asked

-- an inflow of at most 10^27 flow ticks either way
pub record IsInflow (inflow : Span) : Type 0 where
  pub lo : unsigned_abs inflow.lo ≤ 10 ^ 27
  pub hi : unsigned_abs inflow.hi ≤ 10 ^ 27

-- levels of a tank of a sound network: from 0 to 20,000 metres, the least and the greatest apart
pub record IsTankOfRange (tank : Tank) : Type 0 where
  pub lowest : pos 0 ≤ℤ tank.minimum
  pub apart : tank.minimum <ℤ tank.maximum
  pub highest : tank.maximum ≤ℤ pos (2 * head_limit)

-- a tank of a sound network that has no volume curve: its area is 10^-9 to 10^6 square metres
pub record IsCylinder (tank : Tank) : Type 0 where
  pub without_curve : tank.shape ≡ None
  pub area : Lies (pos 1) (pos (10 ^ 15)) tank.area
  pub levels : IsTankOfRange tank

-- a tank of a sound network, and the points of its volume curve
pub record IsBasin (tank : Tank) (points : List VolumePoint) : Type 0 where
  pub shape : IsShapeOf tank points
  pub levels : IsTankOfRange tank

-- the least and the greatest volume that is kept of a tank
abbrev pub kept_bounds : Walls → Tank → Bounds
kept_bounds walls tank = record { least = kept_volume walls tank.minimum; most = kept_volume walls tank.maximum }

-- stocks within the bounds of their tank
pub record AreHeld (walls : Walls) (tank : Tank) (stocks : Stocks) : Type 0 where
  pub level : IsWithin (level_bounds tank) stocks.level
  pub volume : IsWithin (kept_bounds walls tank) stocks.volume

-- a tank of a sound network: a cylinder, or one with one of the network's volume curves
abbrev pub IsTankOf : Project → Tank → Type 0
IsTankOf project tank =
    MatchOption tank.shape (IsCylinder tank) (λ shape. (shape < length project.shapes.list)
    × IsBasin tank (shape_points project shape))
