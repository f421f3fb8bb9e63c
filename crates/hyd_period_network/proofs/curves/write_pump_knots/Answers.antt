use Rattle.std.proofs.Common.{pos, [], ◌∷◌, drop, ◌+◌, length, ap, to_z, of_z, w64, arith}
use Rattle.std.proofs.lemmas.List.{length-append}
use Rattle.hyd_spec.specs.DemandsHeadsAndPumpLifts.{pump_knots}
use Rattle.hyd_law.specs.KnotsOfStraightLines.{places}
use Rattle.hyd_period_network.proofs.KnotsOfCurves.{heads_within, pump_more, pump_all, pump_curve, more_places}
use Rattle.hyd_period_network.proofs.KnotsOfCurves.{more_ranges}
use Rattle.hyd_period_network.proofs.curves.write_pump_knots.Goals as goal

pub pump_knot-requires-clause-head : goal.pump_knot-requires-clause-head
pump_knot-requires-clause-head c = heads_within c.args.points.now c.requires.curve c.loop-point.point-index (record {
  flow = pos 0;
  head = pos 0;
}) (omega arith)

pub loop-point-preserved : goal.loop-point-preserved
loop-point-preserved c =
    let speed = to_z w64 (of_z w64 c.args.speed) in
    let added = ap length c.add_knot.ensures.added in
    let one = length-append c.loop-point.knots.list (c.pump_knot.result ∷ []) in
    record {
      count = omega (arith, added, one, c.loop-point.invariant.count);
      knots = more_places c.loop-point.knots.list c.add_knot.new.knots.list c.pump_knot.result
          (pump_knots (drop c.loop-point.point-index c.args.points.now) speed)
          (pump_knots (drop (c.loop-point.point-index + 1) c.args.points.now) speed)
          (pump_knots c.args.points.now speed) c.add_knot.ensures.added
          (pump_more c.args.points.now speed c.loop-point.point-index (record {
            flow = pos 0;
            head = pos 0;
          }) c.pump_knot.result (omega arith) c.pump_knot.ensures.knot)
          c.loop-point.invariant.knots;
      ranges = more_ranges c.loop-point.knots.list c.add_knot.new.knots.list c.pump_knot.result
          c.add_knot.ensures.added c.loop-point.invariant.ranges c.pump_knot.ensures.range;
      room = omega (arith, added, one, c.add_knot.ensures.room, c.loop-point.invariant.room);
    }

pub returns-clause-curve : goal.returns-clause-curve
returns-clause-curve c =
    let speed = to_z w64 (of_z w64 c.args.speed) in
    pump_curve c.args.points.now speed c.loop-point.knots.list c.requires.curve
    (pump_all c.args.points.now speed c.loop-point.point-index (places c.loop-point.knots.list)
    (pump_knots c.args.points.now speed) (omega arith) c.loop-point.invariant.knots) c.loop-point.invariant.ranges
