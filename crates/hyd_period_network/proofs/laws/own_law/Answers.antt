use Rattle.std.proofs.Common.{◌*◌, length, subst, sym, ap, arith}
use Rattle.hyd_net.specs.Curves.{IsLossCurve}
use Rattle.hyd_spec.specs.DemandsHeadsAndPumpLifts.{is_us, points_of}
use Rattle.hyd_period_network.proofs.RoomOfKnots.{bend_points}
use Rattle.hyd_period_network.proofs.laws.own_law.Goals as goal

pub curve_pump_law-requires-clause-room : goal.curve_pump_law-requires-clause-room
curve_pump_law-requires-clause-room c =
    let room = c.knots_of.ensures.room (length (points_of c.args.project.now.bends.list c.in-CurvePump.bend))
    (rw c.in-CurvePump.is at c.requires.room) in
    let same = ap length c.points_of.ensures in
    omega (arith, room, same)

pub returns-in-CurvePump-clause-represents : goal.returns-in-CurvePump-clause-represents
returns-in-CurvePump-clause-represents c =
    rw c.in-CurvePump.is (c.curve_pump_law.ensures.represents (is_us c.args.project.now) c.in-CurvePump.bend
    c.in-CurvePump.pattern c.args.project.now c.points_of.ensures)

pub returns-in-CurvePump-clause-room : goal.returns-in-CurvePump-clause-room
returns-in-CurvePump-clause-room c =
    rw c.in-CurvePump.is (c.curve_pump_law.ensures.room _ (c.knots_of.ensures.room
    (length (points_of c.args.project.now.bends.list c.in-CurvePump.bend))
    (rw c.in-CurvePump.is at c.requires.room)))

pub curve_valve_law-requires-clause-curve : goal.curve_valve_law-requires-clause-curve
curve_valve_law-requires-clause-curve c =
    subst IsLossCurve (sym c.points_of-in-Gpv.ensures) (bend_points IsLossCurve c.args.project.now.bends.list
    c.in-Gpv.bend (rw c.in-Gpv.is at c.requires.can.sizes))

pub curve_valve_law-requires-clause-room : goal.curve_valve_law-requires-clause-room
curve_valve_law-requires-clause-room c =
    let room = c.knots_of-in-Gpv.ensures.room (2 * length (points_of c.args.project.now.bends.list c.in-Gpv.bend))
    (rw c.in-Gpv.is at c.requires.room) in
    let same = ap length c.points_of-in-Gpv.ensures in
    omega (arith, room, same)

pub returns-in-Gpv-clause-represents : goal.returns-in-Gpv-clause-represents
returns-in-Gpv-clause-represents c =
    rw c.in-Gpv.is (c.curve_valve_law.ensures.represents (is_us c.args.project.now) c.in-Gpv.bend c.args.project.now
    c.points_of-in-Gpv.ensures)

pub returns-in-Gpv-clause-room : goal.returns-in-Gpv-clause-room
returns-in-Gpv-clause-room c =
    rw c.in-Gpv.is (c.curve_valve_law.ensures.room _ (c.knots_of-in-Gpv.ensures.room
    (2 * length (points_of c.args.project.now.bends.list c.in-Gpv.bend)) (rw c.in-Gpv.is at c.requires.room)))
