use Rattle.std.proofs.Common.{◌≡◌, ◌<◌, ℕ, get_or}
use Rattle.hyd_stocks_at_scale.specs.declared.motions.Stock.{Stock}
use Rattle.hyd_stocks_at_scale.specs.Motions.{stock_of}
use Rattle.hyd_witness_texts.specs.MomentView.{moment_of}
use Rattle.hyd_course.specs.Stocks.{stock_in}
use Rattle.hyd_course.proofs.going_on.put_stocks.Given as goal

-- the tanks so far have the stocks of the moment
abbrev pub invariant-loop-tank : goal.invariant-loop-tank
invariant-loop-tank l = (k : ℕ) → k < l.tank → (stock : Stock)
    → stock_of (get_or l.stocks k stock) ≡ stock_in (moment_of l.moment) k
