use Rattle.std.proofs.Common.{◌≡◌, sym, subst}
use Rattle.hyd_spec.specs.ProgramTypes.{Tank}
use Rattle.hyd_spec.specs.Tank.{walls_of}
use Rattle.hyd_theorems_on_definitions.proofs.SoundTankLemmas.{sound_tank, vessels}
use Rattle.hyd_tank.specs.StockIntervals.{stocks_of, initial_stocks, AreHeld}
use Rattle.hyd_tank.proofs.InitialStocksInBounds.{initial_held}
use Rattle.hyd_tank.proofs.TanksOfSoundNetworks.{tank_of, of_each}
use Rattle.hyd_tank.proofs.stocks.initial_stock.Goals as goal

pub initial_of-requires-clause-tank : goal.initial_of-requires-clause-tank
initial_of-requires-clause-tank c = tank_of c.args.project.now c.requires.sound c.args.tank c.tank_at.result
    c.tank_at.ensures

pub initial_of-requires-clause-initial : goal.initial_of-requires-clause-initial
initial_of-requires-clause-initial c =
    (sound_tank c.args.project.now c.requires.sound c.args.tank c.tank_at.result c.tank_at.ensures).ranges.initial

pub returns-clause-value : goal.returns-clause-value
returns-clause-value c = λ each at.
    of_each (λ (tank : Tank). stocks_of c.initial_of.result ≡ initial_stocks (walls_of c.args.project.now tank) tank)
    c.args.project.now.tanks.list c.args.tank c.tank_at.result each c.tank_at.ensures at c.initial_of.ensures

pub returns-clause-held : goal.returns-clause-held
returns-clause-held c = λ each at.
    let walls = walls_of c.args.project.now each in
    subst (AreHeld walls each) (sym (returns-clause-value c each at))
    (initial_held walls each (vessels c.args.project.now c.requires.sound c.args.tank each at)
    (sound_tank c.args.project.now c.requires.sound c.args.tank each at).ranges.initial)
