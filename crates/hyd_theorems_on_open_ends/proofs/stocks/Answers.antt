use Rattle.std.specs.Prelude.{None}
use Rattle.hyd_theorems_on_open_ends.proofs.StocksOverLengths.{carried_over_lies, next_end_lies}
use Rattle.hyd_theorems_on_open_ends.proofs.LevelsThatArrive.{none_come}
use Rattle.hyd_theorems_on_open_ends.proofs.stocks.Goals as goal

pub returns-clause-carried : goal.returns-clause-carried
returns-clause-carried c = carried_over_lies

pub returns-clause-next : goal.returns-clause-next
returns-clause-next c = λ S walls tank stocks inflow shortest length longest stock q next some vessel lies flow from to.
    next_end_lies S walls tank stocks inflow shortest length longest None stock q next some vessel lies flow from to
    (none_come S walls tank inflow stock q length)
