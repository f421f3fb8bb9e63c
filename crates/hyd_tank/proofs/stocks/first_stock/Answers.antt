use Rattle.std.proofs.Common.{ℤ, subst, w64}
use Rattle.std.proofs.lemmas.Int.{to_z-of_z}
use Rattle.hyd_spec.specs.ProgramTypes.{Tank}
use Rattle.hyd_spec.specs.Tank.{walls_of}
use Rattle.hyd_spec_certificates.specs.SpansAsIntervals.{flows_of}
use Rattle.hyd_spec_certificates.specs.FirstSeconds.{IsEarliestSecond, IsLatestSecond}
use Rattle.hyd_theorems_on_definitions.proofs.DecidedByEnds.{seconds_hold, seconds_nest}
use Rattle.hyd_theorems_on_definitions.proofs.SoundTankLemmas.{vessels}
use Rattle.hyd_tank.specs.StockIntervals.{stocks_of}
use Rattle.hyd_tank.proofs.OrderBoundsAndNesting.{seconds_ordered}
use Rattle.hyd_tank.proofs.TanksOfSoundNetworks.{tank_of, of_each}
use Rattle.hyd_tank.proofs.stocks.first_stock.Goals as goal

pub first_of-requires-clause-tank : goal.first_of-requires-clause-tank
first_of-requires-clause-tank c = tank_of c.args.project.now c.requires.sound c.args.tank c.tank_at.result
    c.tank_at.ensures

pub first_of-requires-clause-held : goal.first_of-requires-clause-held
first_of-requires-clause-held c = c.requires.held c.tank_at.result c.tank_at.ensures

pub returns-clause-earliest : goal.returns-clause-earliest
returns-clause-earliest c = λ each at.
    of_each (λ (tank : Tank). IsEarliestSecond (walls_of c.args.project.now tank) tank (stocks_of c.args.stock)
    (flows_of c.args.inflow) c.args.target c.args.rising c.args.cap c.first_of.result.0)
    c.args.project.now.tanks.list c.args.tank c.tank_at.result each c.tank_at.ensures at
    (subst (λ (z : ℤ). IsEarliestSecond (walls_of c.args.project.now c.tank_at.result) c.tank_at.result
    (stocks_of c.args.stock) (flows_of c.args.inflow) z c.args.rising c.args.cap c.first_of.result.0)
    (to_z-of_z w64 c.args.target c.ranges.target) c.first_of.ensures.earliest)

pub returns-clause-latest : goal.returns-clause-latest
returns-clause-latest c = λ each at.
    of_each (λ (tank : Tank). IsLatestSecond (walls_of c.args.project.now tank) tank (stocks_of c.args.stock)
    (flows_of c.args.inflow) c.args.target c.args.rising c.args.cap c.first_of.result.1)
    c.args.project.now.tanks.list c.args.tank c.tank_at.result each c.tank_at.ensures at
    (subst (λ (z : ℤ). IsLatestSecond (walls_of c.args.project.now c.tank_at.result) c.tank_at.result
    (stocks_of c.args.stock) (flows_of c.args.inflow) z c.args.rising c.args.cap c.first_of.result.1)
    (to_z-of_z w64 c.args.target c.ranges.target) c.first_of.ensures.latest)

pub returns-clause-holds : goal.returns-clause-holds
returns-clause-holds c = λ each at S one q first some lies flow is.
    seconds_hold S (walls_of c.args.project.now each) each (stocks_of c.args.stock) (flows_of c.args.inflow)
    c.args.target c.args.rising c.args.cap one q c.first_of.result.0 c.first_of.result.1 first some
    (vessels c.args.project.now c.requires.sound c.args.tank each at) lies flow (returns-clause-earliest c each at)
    (returns-clause-latest c each at) is

pub returns-clause-nests : goal.returns-clause-nests
returns-clause-nests c = λ each at wider more sooner later inside flow e l.
    seconds_nest (walls_of c.args.project.now each) each (stocks_of c.args.stock) wider (flows_of c.args.inflow)
    more c.args.target c.args.rising c.args.cap c.first_of.result.0 c.first_of.result.1 sooner later
    (vessels c.args.project.now c.requires.sound c.args.tank each at) inside flow (returns-clause-earliest c each at)
    (returns-clause-latest c each at) e l

pub returns-clause-ordered : goal.returns-clause-ordered
returns-clause-ordered c = λ has.
    let each = c.tank_at.result in
    seconds_ordered (walls_of c.args.project.now each) each (stocks_of c.args.stock) (flows_of c.args.inflow)
    c.args.target c.args.rising c.args.cap c.first_of.result.0 c.first_of.result.1
    (vessels c.args.project.now c.requires.sound c.args.tank each c.tank_at.ensures) has c.args.inflow.ordered
    (returns-clause-earliest c each c.tank_at.ensures) (returns-clause-latest c each c.tank_at.ensures)
