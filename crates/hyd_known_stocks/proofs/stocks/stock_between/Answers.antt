use Rattle.std.proofs.Common.{◌≡◌, sym, subst}
use Rattle.hyd_spec.specs.ProgramTypes.{Tank}
use Rattle.hyd_spec.specs.Tank.{walls_of}
use Rattle.hyd_spec_certificates.specs.SpansAsIntervals.{levels_of}
use Rattle.hyd_tank.specs.StockIntervals.{stocks_of, AreHeld}
use Rattle.hyd_tank.proofs.TanksOfSoundNetworks.{tank_of, of_each}
use Rattle.hyd_known_stocks.specs.KnownStocks.{stocks_between}
use Rattle.hyd_known_stocks.proofs.HeldBetween.{in_order, held_between}
use Rattle.hyd_known_stocks.proofs.stocks.stock_between.Goals as goal

pub stock_of-requires-clause-tank : goal.stock_of-requires-clause-tank
stock_of-requires-clause-tank c = tank_of c.args.project.now c.requires.sound c.args.tank c.tank_at.result
    c.tank_at.ensures

pub stock_of-requires-clause-lowest : goal.stock_of-requires-clause-lowest
stock_of-requires-clause-lowest c = c.requires.lowest c.tank_at.result c.tank_at.ensures

pub stock_of-requires-clause-highest : goal.stock_of-requires-clause-highest
stock_of-requires-clause-highest c = c.requires.highest c.tank_at.result c.tank_at.ensures

pub returns-clause-value : goal.returns-clause-value
returns-clause-value c = λ each at.
    of_each (λ (tank : Tank). stocks_of c.stock_of.result ≡ stocks_between (walls_of c.args.project.now tank)
    (levels_of c.args.level))
    c.args.project.now.tanks.list c.args.tank c.tank_at.result each c.tank_at.ensures at c.stock_of.ensures

pub returns-clause-held : goal.returns-clause-held
returns-clause-held c = λ each at.
    let project = c.args.project.now in
    let walls = walls_of project each in
    subst (AreHeld walls each) (sym (returns-clause-value c each at))
    (held_between walls each (levels_of c.args.level)
    (in_order project each (tank_of project c.requires.sound c.args.tank each at))
    (c.requires.lowest each at) (c.requires.highest each at))
