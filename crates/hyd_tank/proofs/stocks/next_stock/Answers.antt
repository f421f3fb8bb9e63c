use Rattle.std.proofs.Common.{◌≡◌, sym, subst}
use Rattle.hyd_spec.specs.ProgramTypes.{Tank}
use Rattle.hyd_spec.specs.Tank.{walls_of}
use Rattle.hyd_spec_certificates.specs.SpansAsIntervals.{flows_of}
use Rattle.hyd_spec_certificates.specs.Stocks.{Stocks, next_stocks}
use Rattle.hyd_theorems_on_definitions.specs.LyingInIntervals.{StockLies, AreInside, HasStock}
use Rattle.hyd_theorems_on_definitions.proofs.StocksInIntervals.{next_lies, next_inside, next_has}
use Rattle.hyd_theorems_on_definitions.proofs.SoundTankLemmas.{vessels}
use Rattle.hyd_tank.specs.StockIntervals.{stocks_of, AreHeld}
use Rattle.hyd_tank.proofs.TanksOfSoundNetworks.{tank_of, of_each, next_held}
use Rattle.hyd_tank.proofs.stocks.next_stock.Goals as goal

pub next_of-requires-clause-tank : goal.next_of-requires-clause-tank
next_of-requires-clause-tank c = tank_of c.args.project.now c.requires.sound c.args.tank c.tank_at.result
    c.tank_at.ensures

pub next_of-requires-clause-held : goal.next_of-requires-clause-held
next_of-requires-clause-held c = c.requires.held c.tank_at.result c.tank_at.ensures

pub returns-clause-value : goal.returns-clause-value
returns-clause-value c = λ each at.
    of_each (λ (tank : Tank). stocks_of c.next_of.result ≡ next_stocks (walls_of c.args.project.now tank) tank
    (stocks_of c.args.stock) (flows_of c.args.inflow) c.args.seconds)
    c.args.project.now.tanks.list c.args.tank c.tank_at.result each c.tank_at.ensures at c.next_of.ensures

pub returns-clause-held : goal.returns-clause-held
returns-clause-held c = λ each at.
    let walls = walls_of c.args.project.now each in
    subst (AreHeld walls each) (sym (returns-clause-value c each at))
    (next_held walls each (stocks_of c.args.stock) (flows_of c.args.inflow) c.args.seconds
    (vessels c.args.project.now c.requires.sound c.args.tank each at))

pub returns-clause-holds : goal.returns-clause-holds
returns-clause-holds c = λ each at S one q next some lies flow is.
    subst (λ (x : Stocks). StockLies S x next) (sym (returns-clause-value c each at))
    (next_lies S (walls_of c.args.project.now each) each (stocks_of c.args.stock) (flows_of c.args.inflow)
    c.args.seconds one q next some
    (vessels c.args.project.now c.requires.sound c.args.tank each at) lies flow is)

pub returns-clause-nests : goal.returns-clause-nests
returns-clause-nests c = λ each at wider more inside flow.
    let walls = walls_of c.args.project.now each in
    subst (λ (x : Stocks). AreInside x (next_stocks walls each wider more c.args.seconds))
    (sym (returns-clause-value c each at))
    (next_inside walls each (stocks_of c.args.stock) wider (flows_of c.args.inflow) more c.args.seconds
    (vessels c.args.project.now c.requires.sound c.args.tank each at) inside flow)

pub returns-clause-ordered : goal.returns-clause-ordered
returns-clause-ordered c = λ has.
    let each = c.tank_at.result in
    subst HasStock (sym (returns-clause-value c each c.tank_at.ensures))
    (next_has (walls_of c.args.project.now each) each (stocks_of c.args.stock) (flows_of c.args.inflow) c.args.seconds
    (vessels c.args.project.now c.requires.sound c.args.tank each c.tank_at.ensures) has c.args.inflow.ordered)
