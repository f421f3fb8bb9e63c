use Rattle.std.proofs.Common.{ap, ◌∙◌}
use Rattle.hyd_spec.specs.Tank.{walls_of}
use Rattle.hyd_spec_certificates.specs.SpansAsIntervals.{levels_of}
use Rattle.hyd_lemmas.proofs.ListsOptionsAndResults.{item_there}
use Rattle.hyd_known_stocks.specs.KnownStocks.{stocks_between}
use Rattle.hyd_spread_rows.specs.SpreadsRead.{spread_of}
use Rattle.hyd_spread_start.proofs.KnownStocksOfRows.{in-range}
use Rattle.hyd_spread_start.proofs.known_stocks.stock_of.Goals as goal

pub span_of-level-requires-clause-low : goal.span_of-level-requires-clause-low
span_of-level-requires-clause-low c =
    let project = c.args.project.now in
    let there = item_there project.tanks.list c.args.tank c.requires.tank in
    (in-range project c.requires.sound (spread_of c.args.rows.now) c.requires.spread c.args.tank there.0 there.1 _
    (c.ends_at.ensures there.0 there.1)).low

pub span_of-level-requires-clause-high : goal.span_of-level-requires-clause-high
span_of-level-requires-clause-high c =
    let project = c.args.project.now in
    let there = item_there project.tanks.list c.args.tank c.requires.tank in
    (in-range project c.requires.sound (spread_of c.args.rows.now) c.requires.spread c.args.tank there.0 there.1 _
    (c.ends_at.ensures there.0 there.1)).high

pub stock_between-requires-clause-lowest : goal.stock_between-requires-clause-lowest
stock_between-requires-clause-lowest c = λ each at.
    (in-range c.args.project.now c.requires.sound (spread_of c.args.rows.now) c.requires.spread c.args.tank each at
    (levels_of c.span_of-level.result) (c.span_of-level.ensures ∙ c.ends_at.ensures each at)).lowest

pub stock_between-requires-clause-highest : goal.stock_between-requires-clause-highest
stock_between-requires-clause-highest c = λ each at.
    (in-range c.args.project.now c.requires.sound (spread_of c.args.rows.now) c.requires.spread c.args.tank each at
    (levels_of c.span_of-level.result) (c.span_of-level.ensures ∙ c.ends_at.ensures each at)).highest

pub returns-clause-value : goal.returns-clause-value
returns-clause-value c = λ each at.
    c.stock_between.ensures.value each at
    ∙ ap (stocks_between (walls_of c.args.project.now each)) (c.span_of-level.ensures ∙ c.ends_at.ensures each at)
