use Rattle.std.proofs.Common.{ℤ, subst, w64}
use Rattle.std.proofs.lemmas.Int.{to_z-of_z}
use Rattle.hyd_spec_certificates.specs.SpansAsIntervals.{flows_of}
use Rattle.hyd_spec_certificates.specs.FirstSeconds.{IsEarliestSecond, IsLatestSecond}
use Rattle.hyd_theorems_on_definitions.proofs.DecidedByEnds.{seconds_hold, seconds_nest}
use Rattle.hyd_tank.specs.StockIntervals.{cylinder, stocks_at, with_levels, level_stock}
use Rattle.hyd_tank.proofs.TanksOfSoundNetworks.{cylinder_vessel}
use Rattle.hyd_tank.proofs.OrderBoundsAndNesting.{level_lies, levels_inside, level_there, seconds_ordered}
use Rattle.hyd_tank.proofs.cylinders.first_second.Goals as goal

pub returns-clause-earliest : goal.returns-clause-earliest
returns-clause-earliest c =
    let tank = c.args.tank.now in
    subst (λ (z : ℤ). IsEarliestSecond (cylinder tank) tank (stocks_at c.args.level) (flows_of c.args.inflow) z
    c.args.rising c.args.cap c.first_seconds.result.0)
    (to_z-of_z w64 c.args.target c.ranges.target) c.first_seconds.ensures.earliest

pub returns-clause-latest : goal.returns-clause-latest
returns-clause-latest c =
    let tank = c.args.tank.now in
    subst (λ (z : ℤ). IsLatestSecond (cylinder tank) tank (stocks_at c.args.level) (flows_of c.args.inflow) z
    c.args.rising c.args.cap c.first_seconds.result.1)
    (to_z-of_z w64 c.args.target c.ranges.target) c.first_seconds.ensures.latest

pub returns-clause-ordered : goal.returns-clause-ordered
returns-clause-ordered c = λ order.
    let tank = c.args.tank.now in
    seconds_ordered (cylinder tank) tank (stocks_at c.args.level) (flows_of c.args.inflow) c.args.target
    c.args.rising c.args.cap c.first_seconds.result.0 c.first_seconds.result.1
    (cylinder_vessel tank c.requires.tank) (level_there c.args.level order) c.args.inflow.ordered
    (returns-clause-earliest c) (returns-clause-latest c)

pub returns-clause-holds : goal.returns-clause-holds
returns-clause-holds c = λ S z q first some lies flow is.
    let tank = c.args.tank.now in
    seconds_hold S (cylinder tank) tank (stocks_at c.args.level) (flows_of c.args.inflow) c.args.target c.args.rising
    c.args.cap (level_stock z) q c.first_seconds.result.0 c.first_seconds.result.1 first some
    (cylinder_vessel tank c.requires.tank) (level_lies S c.args.level z lies) flow (returns-clause-earliest c)
    (returns-clause-latest c) is

pub returns-clause-nests : goal.returns-clause-nests
returns-clause-nests c = λ wider more sooner later inside flow early late.
    let tank = c.args.tank.now in
    seconds_nest (cylinder tank) tank (stocks_at c.args.level) (with_levels wider) (flows_of c.args.inflow) more
    c.args.target c.args.rising c.args.cap
    c.first_seconds.result.0 c.first_seconds.result.1 sooner later (cylinder_vessel tank c.requires.tank)
    (levels_inside c.args.level wider inside) flow
    (returns-clause-earliest c) (returns-clause-latest c) early late
