use Rattle.std.proofs.Common.{◌≡◌, sym, subst, ◌∙◌, arith, to_z, of_z}
use Rattle.std.specs.Int.{w128}
use Rattle.std.proofs.lemmas.Int.{ints}
use Rattle.std.proofs.lemmas.Option.{slice_get_read}
use Rattle.hyd_spec.specs.Tank.{walls_of, tank_inflow}
use Rattle.hyd_spec.specs.PeriodLength.{stock_at_start}
use Rattle.hyd_laws_at_scale.specs.Scales.{parts_of}
use Rattle.hyd_met_flows.proofs.Tests.{also_true, also_false}
use Rattle.hyd_stocks_at_scale.specs.Motions.{stock_of}
use Rattle.hyd_course.specs.Standings.{IsSmallInflow}
use Rattle.hyd_course.proofs.NextStocks.{next_along}
use Rattle.hyd_course.proofs.starts.is_next.Goals as goal

pub returns-clause-yes : goal.returns-clause-yes
returns-clause-yes c = λ before each kept long at.
    let project = c.args.project.now in
    let standing = c.args.standing.now in
    let k = c.args.tank in
    let stock : stock_of c.index.result.now ≡ stock_at_start before k =
    kept.stocks k c.index.result.now (slice_get_read standing.stocks.items _ k c.index.result.now
    (sym c.requires.standing.stock_each) c.requires.there c.index.ensures) in
    let small = subst IsSmallInflow (sym c.index-2.ensures) (c.requires.standing.inflows k c.index-2.result.now
    (let each = c.requires.standing.inflow_each in let there = c.requires.there in omega (arith, each, there))) in
    let fits : to_z w128 (of_z w128 c.index-2.result.now) ≡ c.index-2.result.now = omega (arith, ints, small) in
    let inflow : to_z w128 (of_z w128 c.index-2.result.now) ≡ tank_inflow project k before.assignment.flows =
    fits ∙ kept.inflows k c.index-2.result.now (slice_get_read standing.inflows.items _ k c.index-2.result.now
    (sym c.requires.standing.inflow_each) c.requires.there c.index-2.ensures) in
    also_true c.is_next_stock.result _ _ (c.is_next_stock.ensures.yes each at)
    (next_along (parts_of standing.scale) (walls_of project each) each _ _ _ _ _ _ _ _ stock inflow (sym long)
    c.stock_of.ensures)

pub returns-clause-no : goal.returns-clause-no
returns-clause-no c = λ before each kept long at.
    let project = c.args.project.now in
    let standing = c.args.standing.now in
    let k = c.args.tank in
    let stock : stock_of c.index.result.now ≡ stock_at_start before k =
    kept.stocks k c.index.result.now (slice_get_read standing.stocks.items _ k c.index.result.now
    (sym c.requires.standing.stock_each) c.requires.there c.index.ensures) in
    let small = subst IsSmallInflow (sym c.index-2.ensures) (c.requires.standing.inflows k c.index-2.result.now
    (let each = c.requires.standing.inflow_each in let there = c.requires.there in omega (arith, each, there))) in
    let fits : to_z w128 (of_z w128 c.index-2.result.now) ≡ c.index-2.result.now = omega (arith, ints, small) in
    let inflow : to_z w128 (of_z w128 c.index-2.result.now) ≡ tank_inflow project k before.assignment.flows =
    fits ∙ kept.inflows k c.index-2.result.now (slice_get_read standing.inflows.items _ k c.index-2.result.now
    (sym c.requires.standing.inflow_each) c.requires.there c.index-2.ensures) in
    also_false c.is_next_stock.result _ _ (c.is_next_stock.ensures.no each at)
    (next_along (parts_of standing.scale) (walls_of project each) each _ _ _ _ _ _ _ _ (sym stock) (sym inflow) long
    (sym c.stock_of.ensures))
