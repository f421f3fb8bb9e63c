use Rattle.std.proofs.Common.{◌≡◌, sym, subst, ap, ◌∙◌}
use Rattle.hyd_spec.specs.ProgramTypes.{Tank}
use Rattle.hyd_spec.specs.Tank.{walls_of, carried_level}
use Rattle.hyd_spec_certificates.specs.SpansAsIntervals.{flows_of}
use Rattle.hyd_spec_certificates.specs.Interval.{Interval}
use Rattle.hyd_spec_certificates.specs.Stocks.{Stocks, carried_stocks}
use Rattle.hyd_theorems_on_definitions.specs.LyingInIntervals.{LiesAround, AreInside, HasStock}
use Rattle.hyd_theorems_on_definitions.proofs.StocksInIntervals.{carried_lies}
use Rattle.hyd_theorems_on_definitions.proofs.SoundTankLemmas.{vessels}
use Rattle.hyd_tank.specs.StockIntervals.{stocks_of, AreHeld}
use Rattle.hyd_tank.proofs.OrderBoundsAndNesting.{carried_held, carried_has, carried_stocks_inside}
use Rattle.hyd_tank.proofs.TanksOfSoundNetworks.{tank_of, of_each, carried_is}
use Rattle.hyd_tank.proofs.stocks.stock_at.Goals as goal

pub carried_of-requires-clause-tank : goal.carried_of-requires-clause-tank
carried_of-requires-clause-tank c = tank_of c.args.project.now c.requires.sound c.args.tank c.tank_at.result
    c.tank_at.ensures

pub carried_of-requires-clause-held : goal.carried_of-requires-clause-held
carried_of-requires-clause-held c = c.requires.held c.tank_at.result c.tank_at.ensures

pub returns-clause-value : goal.returns-clause-value
returns-clause-value c = λ each at.
    of_each (λ (tank : Tank). stocks_of c.carried_of.result ≡ carried_stocks (walls_of c.args.project.now tank) tank
    (stocks_of c.args.stock) (flows_of c.args.inflow) c.args.seconds)
    c.args.project.now.tanks.list c.args.tank c.tank_at.result each c.tank_at.ensures at c.carried_of.ensures

pub returns-clause-holds : goal.returns-clause-holds
returns-clause-holds c = λ each at S one q some lies flow.
    let walls = walls_of c.args.project.now each in
    let value = ap (λ (x : Stocks). x.level) (returns-clause-value c each at) ∙ carried_is walls each
    (stocks_of c.args.stock) (flows_of c.args.inflow) c.args.seconds in
    subst (λ (x : Interval). LiesAround S x (carried_level S walls each one q c.args.seconds)) (sym value)
    (carried_lies S walls (stocks_of c.args.stock) (flows_of c.args.inflow) c.args.seconds one q lies flow each some
    (vessels c.args.project.now c.requires.sound c.args.tank each at))

pub returns-clause-nests : goal.returns-clause-nests
returns-clause-nests c = λ each at wider more inside flow.
    let walls = walls_of c.args.project.now each in
    subst (λ (x : Stocks). AreInside x (carried_stocks walls each wider more c.args.seconds)) (sym
    (returns-clause-value c each at))
    (carried_stocks_inside walls each (stocks_of c.args.stock) wider (flows_of c.args.inflow) more c.args.seconds
    (vessels c.args.project.now c.requires.sound c.args.tank each at) inside flow)

pub returns-clause-held : goal.returns-clause-held
returns-clause-held c = λ each at.
    let walls = walls_of c.args.project.now each in
    subst (AreHeld walls each) (sym (returns-clause-value c each at))
    (carried_held walls each (stocks_of c.args.stock) (flows_of c.args.inflow) c.args.seconds (vessels
    c.args.project.now c.requires.sound c.args.tank each at))

pub returns-clause-ordered : goal.returns-clause-ordered
returns-clause-ordered c = λ has.
    let each = c.tank_at.result in
    subst HasStock (sym (returns-clause-value c each c.tank_at.ensures))
    (carried_has (walls_of c.args.project.now each) each (stocks_of c.args.stock) (flows_of c.args.inflow)
    c.args.seconds
    (vessels c.args.project.now c.requires.sound c.args.tank each c.tank_at.ensures) has c.args.inflow.ordered)
