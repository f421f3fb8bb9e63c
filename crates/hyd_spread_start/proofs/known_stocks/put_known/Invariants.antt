use Rattle.std.proofs.Common.{◌≡◌, ℕ, ◌+◌, ◌<◌, ◌≤◌, length, take}
use Rattle.std.specs.Prelude.{Some, map, slice_get}
use Rattle.hyd_spec.specs.ProgramTypes.{Tank}
use Rattle.hyd_spec.specs.Tank.{walls_of}
use Rattle.hyd_spec_certificates.specs.SpansAsIntervals.{levels_of}
use Rattle.hyd_spec_spread.specs.Spreads.{level_interval}
use Rattle.hyd_spec_spread.specs.IntervalsOfData.{known_levels, known_volumes}
use Rattle.hyd_tank.specs.StockIntervals.{AreHeld, volumes_of}
use Rattle.hyd_known_stocks.specs.KnownStocks.{stocks_between}
use Rattle.hyd_spread_rows.specs.SpreadsRead.{spread_of}
use Rattle.hyd_spread_start.proofs.known_stocks.put_known.Given as goal

abbrev pub invariant-loop-tank : goal.invariant-loop-tank
invariant-loop-tank l = record {
  levels_count : length l.levels.list ≡ l.tank;
  volumes_count : length l.volumes.list ≡ l.tank;
  levels : map levels_of l.levels.list ≡ take l.tank (known_levels l.project (spread_of l.rows));
  volumes : map volumes_of l.volumes.list ≡ take l.tank (known_volumes l.project (spread_of l.rows));
  held : (k : ℕ) (tank : Tank) → k < l.tank → slice_get l.project.tanks.list k ≡ Some tank
      → AreHeld (walls_of l.project tank) tank
      (stocks_between (walls_of l.project tank) (level_interval (spread_of l.rows) k tank));
  levels_room : length l.fn.levels.list + l.fn.levels.spare ≤ length l.levels.list + l.levels.spare;
  volumes_room : length l.fn.volumes.list + l.fn.volumes.spare ≤ length l.volumes.list + l.volumes.spare;
}
