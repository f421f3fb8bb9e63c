use Rattle.std.proofs.Common.{◌≡◌, ◌+◌, ◌≤◌, ◌++◌, length, drop}
use Rattle.std.specs.List.{All}
use Rattle.hyd_spec.specs.DemandsHeadsAndPumpLifts.{pump_knots}
use Rattle.hyd_law.specs.KnotsOfStraightLines.{IsKnot, places}
use Rattle.hyd_period_network.proofs.curves.write_pump_knots.Given as goal

abbrev pub invariant-loop-point : goal.invariant-loop-point
invariant-loop-point l = record {
  count : length l.knots.list ≡ l.point-index;
  knots : places l.knots.list ++ pump_knots (drop l.point-index l.points) l.speed ≡ pump_knots l.points l.speed;
  ranges : All IsKnot l.knots.list;
  room : length l.fn.knots.list + l.fn.knots.spare ≤ length l.knots.list + l.knots.spare;
}
