use Rattle.std.proofs.Common.{arith}
use Rattle.hyd_period_network.specs.NetAsPeriodNetwork.{grid_of}
use Rattle.hyd_tests_on_certificates.proofs.boxes.inflow.Goals as goal

pub tank_inflow-flow-requires-clause-ordered : goal.tank_inflow-flow-requires-clause-ordered
tank_inflow-flow-requires-clause-ordered c =
    let held = c.if-not-are_certificates.false in
    c.pinned_in_order.ensures.heads (grid_of c.args.net.now) c.junctions-junctions.ensures.steady c.args.tank
    c.args.low.now c.args.high.now
    (omega (arith, c.if-tank-tanks.false, c.tanks.ensures.count, c.tanks.ensures.each)) c.requires
    (c.are_certificates.ensures.lower held) (c.are_certificates.ensures.upper held)
