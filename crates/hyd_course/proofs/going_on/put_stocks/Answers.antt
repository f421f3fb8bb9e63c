use Rattle.std.proofs.Common.{◌≡◌, ◌∙◌, ◌<◌, ℕ, List, length, ap, subst, arith}
use Rattle.std.proofs.Common.{below_more, get_or, get_or-set_other, get_or-set_same}
use Rattle.std.specs.Prelude.{slice_set}
use Rattle.std.proofs.lemmas.Option.{slice_get_within}
use Rattle.hyd_lemmas.proofs.ListsOptionsAndResults.{item_is}
use Rattle.hyd_stocks_at_scale.specs.declared.motions.Stock.{Stock}
use Rattle.hyd_stocks_at_scale.specs.Motions.{stock_of}
use Rattle.hyd_witness_texts.specs.MomentView.{moment_of}
use Rattle.hyd_course.specs.Stocks.{stock_in}
use Rattle.hyd_course.proofs.going_on.put_stocks.Goals as goal

pub loop-tank-preserved : goal.loop-tank-preserved
loop-tank-preserved c =
    let moment = moment_of c.args.moment.now in
    let i : ℕ = c.loop-tank.tank in
    let stocks : List Stock = c.loop-tank.stocks in
    let stock : Stock = c.stock_of.result in
    let there : i < length stocks = omega arith in
    below_more (λ k. (d : Stock) → stock_of (get_or (slice_set stocks i stock) k d) ≡ stock_in moment k) i
    (λ k h d. ap stock_of (get_or-set_other stocks i k stock d (omega (arith, h))) ∙ c.loop-tank.invariant k h d)
    (λ d. ap stock_of (get_or-set_same stocks i stock d there) ∙ c.stock_of.ensures)

pub returns-clause-each : goal.returns-clause-each
returns-clause-each c = λ k stock at.
    let over = c.loop-tank-test.false in
    let lt = slice_get_within c.loop-tank.stocks k stock at in
    subst (λ (s : Stock). stock_of s ≡ stock_in (moment_of c.args.moment.now) k)
    (item_is c.loop-tank.stocks k stock stock at) (c.loop-tank.invariant k (omega (arith, lt, over)) stock)
