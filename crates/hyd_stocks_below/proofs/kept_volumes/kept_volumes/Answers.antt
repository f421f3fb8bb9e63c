use Rattle.std.proofs.Common.{◌^◌, ◌≤◌, ℤ, sym, ap, subst, arith}
use Rattle.std.specs.Prelude.{unsigned_abs}
use Rattle.std.proofs.lemmas.Int.{ints}
use Rattle.hyd_spec.specs.Tank.{walls_of}
use Rattle.hyd_spec_certificates.specs.Stocks.{Stocks}
use Rattle.hyd_lemmas.proofs.ListsOptionsAndResults.{item_there}
use Rattle.hyd_tank.specs.StockIntervals.{stocks_of}
use Rattle.hyd_stocks_below.proofs.KeptVolumes.{emptied, filled}
use Rattle.hyd_stocks_below.proofs.RangesOfTanks.{least_small, most_small}
use Rattle.hyd_stocks_below.proofs.kept_volumes.kept_volumes.Goals as goal

pub returns-clause-least : goal.returns-clause-least
returns-clause-least c = λ each at.
    let project = c.args.project.now in
    emptied (walls_of project each) each (stocks_of c.initial_stock-stock.result) _ 100000000 c.stock_at.result.volume.lo
    (c.initial_stock-stock.ensures.held each at) (least_small project c.requires.sound c.args.tank each at)
    (most_small project c.requires.sound c.args.tank each at) (omega (arith, ints))
    (ap (λ (s : Stocks). s.volume.lo) (c.stock_at.ensures.value each at))

pub returns-clause-most : goal.returns-clause-most
returns-clause-most c = λ each at.
    let project = c.args.project.now in
    filled (walls_of project each) each (stocks_of c.initial_stock-stock.result) _ 100000000 c.stock_at.result.volume.hi
    (c.initial_stock-stock.ensures.held each at) (least_small project c.requires.sound c.args.tank each at)
    (most_small project c.requires.sound c.args.tank each at) (omega (arith, ints))
    (ap (λ (s : Stocks). s.volume.hi) (c.stock_at.ensures.value each at))

pub returns-clause-least_small : goal.returns-clause-least_small
returns-clause-least_small c =
    let project = c.args.project.now in
    let found = item_there project.tanks.list c.args.tank c.requires.tank in
    subst (λ (z : ℤ). unsigned_abs z ≤ 10 ^ 18) (sym (returns-clause-least c found.0 found.1))
    (least_small project c.requires.sound c.args.tank found.0 found.1)

pub returns-clause-most_small : goal.returns-clause-most_small
returns-clause-most_small c =
    let project = c.args.project.now in
    let found = item_there project.tanks.list c.args.tank c.requires.tank in
    subst (λ (z : ℤ). unsigned_abs z ≤ 10 ^ 18) (sym (returns-clause-most c found.0 found.1))
    (most_small project c.requires.sound c.args.tank found.0 found.1)
