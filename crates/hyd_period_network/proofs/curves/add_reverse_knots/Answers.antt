use Rattle.std.proofs.Common.{pos, map, reverse, drop, neg_ℤ, ◌+◌, ◌++◌, arith}
use Rattle.hyd_net.specs.declared.curves.HeadPoint.{HeadPoint}
use Rattle.hyd_law.specs.KnotsOfStraightLines.{places}
use Rattle.hyd_period_network.proofs.KnotsOfCurves.{back_more, more_places, more_ranges}
use Rattle.hyd_period_network.proofs.curves.add_reverse_knots.Goals as goal

pub loop-i-preserved : goal.loop-i-preserved
loop-i-preserved c = record {
  knots = more_places c.loop-i.knots.list c.add_knot.new.knots.list c.reverse_knot.result
      (map (λ (p : HeadPoint). record {
        place = neg_ℤ p.head;
        value = neg_ℤ p.flow;
      }) (drop c.loop-i.i (reverse c.args.points.now)))
      (map (λ (p : HeadPoint). record {
        place = neg_ℤ p.head;
        value = neg_ℤ p.flow;
      }) (drop (c.loop-i.i + 1) (reverse c.args.points.now)))
      (places c.args.knots.now.list ++ map (λ (p : HeadPoint). record {
        place = neg_ℤ p.head;
        value = neg_ℤ p.flow;
      }) (reverse c.args.points.now))
      c.add_knot.ensures.added (back_more c.args.points.now c.loop-i.i (record {
        flow = pos 0;
        head = pos 0;
      }) c.reverse_knot.result (omega arith) c.reverse_knot.ensures.knot) c.loop-i.invariant.knots;
  ranges = more_ranges c.loop-i.knots.list c.add_knot.new.knots.list c.reverse_knot.result c.add_knot.ensures.added
      c.loop-i.invariant.ranges c.reverse_knot.ensures.range;
  room = omega (arith, c.add_knot.ensures.room, c.loop-i.invariant.room);
}
