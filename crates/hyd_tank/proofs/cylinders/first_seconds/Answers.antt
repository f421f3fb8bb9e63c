use Rattle.std.proofs.Common.{rules, w64, SFits}
use Rattle.std.specs.Int.{w128}
use Rattle.std.proofs.lemmas.Int.{to_z-of_z}
use Rattle.hyd_spec_certificates.specs.SpansAsIntervals.{flows_of}
use Rattle.hyd_tank.specs.StockIntervals.{cylinder, stocks_at}
use Rattle.hyd_tank.proofs.CylinderFirstSeconds.{earliest_up, latest_up, earliest_down, latest_down}
use Rattle.hyd_tank.proofs.cylinders.first_seconds.Goals as goal

pub returns-then-rising-clause-earliest : goal.returns-then-rising-clause-earliest
returns-then-rising-clause-earliest c =
    let level : SFits w64 c.args.level.hi = search rules in
    let inflow : SFits w128 c.args.inflow.hi = search rules in
    earliest_up (cylinder c.args.tank.now) c.args.tank.now (stocks_at c.args.level) (flows_of c.args.inflow)
    c.args.target c.args.cap c.first_from-high.result c.args.rising c.if-rising.true
    (rw (
      to_z-of_z w64 c.args.target c.ranges.target,
      to_z-of_z w64 c.args.level.hi level,
      to_z-of_z w128
          c.args.inflow.hi inflow,
    ) at c.first_from-high.ensures)

pub returns-then-rising-clause-latest : goal.returns-then-rising-clause-latest
returns-then-rising-clause-latest c =
    let level : SFits w64 c.args.level.lo = search rules in
    let inflow : SFits w128 c.args.inflow.lo = search rules in
    latest_up (cylinder c.args.tank.now) c.args.tank.now (stocks_at c.args.level) (flows_of c.args.inflow)
    c.args.target c.args.cap c.first_from-low.result c.args.rising c.if-rising.true
    (rw (
      to_z-of_z w64 c.args.target c.ranges.target,
      to_z-of_z w64 c.args.level.lo level,
      to_z-of_z w128
          c.args.inflow.lo inflow,
    ) at c.first_from-low.ensures)

pub returns-else-rising-clause-earliest : goal.returns-else-rising-clause-earliest
returns-else-rising-clause-earliest c =
    let level : SFits w64 c.args.level.lo = search rules in
    let inflow : SFits w128 c.args.inflow.lo = search rules in
    earliest_down (cylinder c.args.tank.now) c.args.tank.now (stocks_at c.args.level) (flows_of c.args.inflow)
    c.args.target c.args.cap c.first_from-low.result c.args.rising c.if-rising.false
    (rw (
      to_z-of_z w64 c.args.target c.ranges.target,
      to_z-of_z w64 c.args.level.lo level,
      to_z-of_z w128
          c.args.inflow.lo inflow,
    ) at c.first_from-low.ensures)

pub returns-else-rising-clause-latest : goal.returns-else-rising-clause-latest
returns-else-rising-clause-latest c =
    let level : SFits w64 c.args.level.hi = search rules in
    let inflow : SFits w128 c.args.inflow.hi = search rules in
    latest_down (cylinder c.args.tank.now) c.args.tank.now (stocks_at c.args.level) (flows_of c.args.inflow)
    c.args.target c.args.cap c.first_from-high.result c.args.rising c.if-rising.false
    (rw (
      to_z-of_z w64 c.args.target c.ranges.target,
      to_z-of_z w64 c.args.level.hi level,
      to_z-of_z w128
          c.args.inflow.hi inflow,
    ) at c.first_from-high.ensures)
