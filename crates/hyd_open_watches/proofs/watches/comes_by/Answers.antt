use Rattle.std.proofs.Common.{◌≡◌, ◌+◌, ℤ, sym, subst, to_z, of_z, arith}
use Rattle.std.specs.Int.{w64}
use Rattle.std.proofs.lemmas.Int.{ints}
use Rattle.hyd_spec.specs.Tank.{walls_of}
use Rattle.hyd_spec_certificates.specs.SpansAsIntervals.{flows_of}
use Rattle.hyd_spec_certificates.specs.Stocks.{Stocks, may_reach}
use Rattle.hyd_spec_certificates.specs.FirstSeconds.{IsFirstSecond}
use Rattle.hyd_tank.specs.StockIntervals.{stocks_of, AreHeld}
use Rattle.hyd_lemmas.proofs.ListsOptionsAndResults.{item_there}
use Rattle.hyd_open_watches.specs.Candidates.{watch_for}
use Rattle.hyd_open_watches.proofs.ComingBySeconds.{comes_first}
use Rattle.hyd_open_watches.proofs.watches.comes_by.Goals as goal

pub first_stock-earliest-requires-clause-held : goal.first_stock-earliest-requires-clause-held
first_stock-earliest-requires-clause-held c = λ each at.
    subst (λ (s : Stocks). AreHeld (walls_of c.args.project.now each) each s) (sym c.stock_at-stock.ensures)
    (c.requires.tanks.held c.args.watch.tank each at)

pub returns : goal.returns
returns c =
    let project = c.args.project.now in
    let small = c.requires.watch.target in
    let kept : to_z w64 (of_z w64 c.args.watch.target) ≡ c.args.watch.target = omega (arith, ints, small) in
    let there = item_there project.tanks.list c.args.watch.tank c.requires.watch.tank in
    comes_first project c.args.facts.now c.args.latest c.first_stock-earliest.result.0 (watch_for c.args.watch) there.0
    (stocks_of c.stock_at-stock.result) (flows_of c.inflow_at-inflow.result) there.1 c.stock_at-stock.ensures
    c.inflow_at-inflow.ensures.value
    (subst (λ (target : ℤ). IsFirstSecond (may_reach (walls_of project there.0) there.0
    (stocks_of c.stock_at-stock.result)
    (flows_of c.inflow_at-inflow.result) target c.args.watch.rising)
    (c.args.latest + 1) c.first_stock-earliest.result.0)
    kept (c.first_stock-earliest.ensures.earliest there.0 there.1))
