use Rattle.std.proofs.Common.{◌≡◌, ◌+◌, ◌≤◌, ◌++◌, drop, map}
use Rattle.std.specs.List.{All}
use Rattle.hyd_net.specs.declared.curves.HeadPoint.{HeadPoint}
use Rattle.hyd_law.specs.KnotsOfStraightLines.{IsKnot, places}
use Rattle.hyd_period_network.proofs.curves.add_forward_knots.Given as goal

abbrev pub invariant-loop-point : goal.invariant-loop-point
invariant-loop-point l = record {
  knots : places l.knots.list ++ map (λ (p : HeadPoint). record {
    place = p.head;
    value = p.flow;
  }) (drop l.point-index l.points)
      ≡ places l.initial.knots.list ++ map (λ (p : HeadPoint). record { place = p.head; value = p.flow }) l.points;
  ranges : All IsKnot l.knots.list;
  room : l.initial.knots.spare ≤ l.knots.spare + l.point-index;
}
