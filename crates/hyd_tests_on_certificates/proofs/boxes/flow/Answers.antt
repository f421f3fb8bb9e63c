use Rattle.hyd_period_network.specs.NetAsPeriodNetwork.{grid_of}
use Rattle.hyd_tests_on_certificates.proofs.Orders.{main_order}
use Rattle.hyd_tests_on_certificates.proofs.boxes.flow.Goals as goal

pub flow_box-flow-requires-clause-ordered : goal.flow_box-flow-requires-clause-ordered
flow_box-flow-requires-clause-ordered c =
    let held = c.if-not-are_certificates.false in
    main_order (grid_of c.args.net.now) c.junctions-junctions.ensures.steady c.requires c.args.low.now c.args.high.now
    (c.are_certificates.ensures.lower held) (c.are_certificates.ensures.upper held)
