use Rattle.std.proofs.Common.{◌≡◌, ◌+◌, ◌≤◌, ◌++◌, drop, map, reverse, neg_ℤ}
use Rattle.std.specs.List.{All}
use Rattle.hyd_net.specs.declared.curves.HeadPoint.{HeadPoint}
use Rattle.hyd_law.specs.KnotsOfStraightLines.{IsKnot, places}
use Rattle.hyd_period_network.proofs.curves.add_reverse_knots.Given as goal

abbrev pub invariant-loop-i : goal.invariant-loop-i
invariant-loop-i l = record {
  knots : places l.knots.list ++ map (λ (p : HeadPoint). record {
    place = neg_ℤ p.head;
    value = neg_ℤ p.flow;
  }) (drop l.i (reverse l.points))
      ≡ places l.initial.knots.list ++ map (λ (p : HeadPoint). record {
        place = neg_ℤ p.head;
        value = neg_ℤ p.flow;
      }) (reverse l.points);
  ranges : All IsKnot l.knots.list;
  room : l.initial.knots.spare ≤ l.knots.spare + l.i;
}
