use Rattle.std.proofs.Common.{◌≤◌, length, arith}
use Rattle.hyd_spread_start.proofs.KnownStocksOfRows.{own-level-is}
use Rattle.hyd_spread_start.proofs.known_stocks.ends_at.Goals as goal

pub returns : goal.returns
returns c = λ each at.
    let rows = c.args.rows.now.levels.items in
    let past : length rows ≤ c.args.tank =
    (let over = c.if-place-len.false in let long = c.len.ensures in omega (arith, over, long)) in
    own-level-is c.args.project.now.tanks.list rows c.args.tank c.tank_at.result each c.own_level.result
    c.own_level.ensures c.tank_at.ensures at past
