use Rattle.std.proofs.Common.{◌≡◌, ℕ, ◌+◌, ◌<◌, ◌≤◌, length, take}
use Rattle.std.specs.Prelude.{Some, map, slice_get}
use Rattle.hyd_spec.specs.ProgramTypes.{Tank}
use Rattle.hyd_spec.specs.Tank.{walls_of}
use Rattle.hyd_spec_certificates.specs.SpansAsIntervals.{levels_of}
use Rattle.hyd_tank.specs.StockIntervals.{AreHeld, volumes_of}
use Rattle.std.specs.Option.{option_map}
use Rattle.hyd_open_watches.specs.Candidates.{watch_for}
use Rattle.hyd_open_tanks.specs.StocksLeft.{left_in}
use Rattle.hyd_open_tanks.proofs.StocksLeftByFacts.{levels_in, volumes_in}
use Rattle.hyd_open_tanks.proofs.left.put_left.Given as goal

abbrev pub invariant-loop-tank : goal.invariant-loop-tank
invariant-loop-tank l = record {
  levels_count : length l.levels.list ≡ l.tank;
  volumes_count : length l.volumes.list ≡ l.tank;
  levels : map levels_of l.levels.list ≡ take l.tank (levels_in l.project l.facts l.lengths.shortest l.lengths.longest
      (option_map watch_for l.reached));
  volumes : map volumes_of l.volumes.list ≡ take l.tank (volumes_in l.project l.facts l.lengths.shortest
      l.lengths.longest
      (option_map watch_for l.reached));
  held : (k : ℕ) (tank : Tank) → k < l.tank → slice_get l.project.tanks.list k ≡ Some tank
      → AreHeld (walls_of l.project tank) tank (left_in l.project l.facts l.lengths.shortest l.lengths.longest
      (option_map watch_for l.reached) k tank);
  levels_room : length l.fn.levels.list + l.fn.levels.spare ≤ length l.levels.list + l.levels.spare;
  volumes_room : length l.fn.volumes.list + l.fn.volumes.spare ≤ length l.volumes.list + l.volumes.spare;
}
