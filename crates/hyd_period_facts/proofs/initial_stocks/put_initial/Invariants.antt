use Rattle.std.proofs.Common.{◌≡◌, ℕ, ◌+◌, ◌<◌, ◌≤◌, length, take}
use Rattle.std.specs.Prelude.{Some, map, slice_get}
use Rattle.hyd_spec.specs.ProgramTypes.{Tank}
use Rattle.hyd_spec.specs.Tank.{walls_of, kept_volume}
use Rattle.hyd_spec_certificates.specs.SpansAsIntervals.{levels_of}
use Rattle.hyd_spec_certificates.specs.Interval.{exactly}
use Rattle.hyd_tank.specs.StockIntervals.{initial_stocks, AreHeld, volumes_of}
use Rattle.hyd_period_facts.proofs.initial_stocks.put_initial.Given as goal

abbrev pub invariant-loop-tank : goal.invariant-loop-tank
invariant-loop-tank l = record {
  levels_count : length l.levels.list ≡ l.tank;
  volumes_count : length l.volumes.list ≡ l.tank;
  levels : map levels_of l.levels.list ≡ map (λ (tank : Tank). exactly tank.initial) (take l.tank l.project.tanks.list);
  volumes : map volumes_of l.volumes.list ≡ map (λ (tank : Tank).
      exactly (kept_volume (walls_of l.project tank) tank.initial)) (take l.tank l.project.tanks.list);
  held : (k : ℕ) (tank : Tank) → k < l.tank → slice_get l.project.tanks.list k ≡ Some tank
      → AreHeld (walls_of l.project tank) tank (initial_stocks (walls_of l.project tank) tank);
  levels_room : length l.fn.levels.list + l.fn.levels.spare ≤ length l.levels.list + l.levels.spare;
  volumes_room : length l.fn.volumes.list + l.fn.volumes.spare ≤ length l.volumes.list + l.volumes.spare;
}
