use Rattle.std.proofs.Common.{◌<◌, length, arith}
use Rattle.hyd_spec_certificates.specs.declared.Problem.TheVariants.{Pinned}
use Rattle.hyd_spec_certificates.specs.declared.Side.TheVariants.{Upper, Lower}
use Rattle.hyd_period_network.specs.NetAsPeriodNetwork.{grid_of}
use Rattle.hyd_spread_bounds.specs.BothSides.{pair_of}
use Rattle.hyd_spread_bounds.proofs.HeadsOfBothSides.{tanks-alike}
use Rattle.hyd_spread_readings.proofs.VectorsOfBothSides.{certificate-of, vector-of}
use Rattle.hyd_spread_readings.proofs.inflows.inflow_of.Goals as goal

pub tank_inflow-requires-clause-low : goal.tank_inflow-requires-clause-low
tank_inflow-requires-clause-low c =
    vector-of c.args.lower.now (Pinned c.args.tank) Lower c.vector.result.now _ c.vector.ensures c.requires.low
    c.junctions-below.ensures.each

pub tank_inflow-requires-clause-high : goal.tank_inflow-requires-clause-high
tank_inflow-requires-clause-high c =
    vector-of c.args.upper.now (Pinned c.args.tank) Upper c.vector-2.result.now _ c.vector-2.ensures c.requires.high
    c.junctions-above.ensures.each

pub tank_inflow-requires-clause-ordered : goal.tank_inflow-requires-clause-ordered
tank_inflow-requires-clause-ordered c =
    let upper = c.args.upper.now in
    let lower = c.args.lower.now in
    let each = c.tanks-tanks.ensures.each in
    let alike = tanks-alike upper lower c.requires.pair in
    let given = c.requires.in_range in
    let there : c.args.tank < length (grid_of lower).tanks = omega (arith, each, alike, given) in
    c.heads_in_order.ensures.pinned (pair_of upper lower) c.requires.pair c.junctions-below.ensures.steady
    c.requires.levels c.args.tank there c.vector.result.now c.vector-2.result.now
    (certificate-of lower (Pinned c.args.tank) Lower c.vector.result.now _ c.vector.ensures c.requires.low)
    (certificate-of upper (Pinned c.args.tank) Upper c.vector-2.result.now _ c.vector-2.ensures c.requires.high)
