use Rattle.hyd_theorems_on_definitions.proofs.StocksInIntervals.{carried_lies, carried_inside, carried_within}
use Rattle.hyd_theorems_on_definitions.proofs.StocksInIntervals.{carried_ordered}
use Rattle.hyd_theorems_on_definitions.proofs.tanks.carried.Goals as goal

pub returns-clause-holds : goal.returns-clause-holds
returns-clause-holds c = λ S walls tank stocks inflow seconds stock q some vessel lies flow.
    carried_lies S walls stocks inflow seconds stock q lies flow tank some vessel

pub returns-clause-nests : goal.returns-clause-nests
returns-clause-nests c = λ walls tank stocks wider inflow more seconds vessel at flow.
    carried_inside walls tank vessel stocks wider inflow more seconds at flow

pub returns-clause-bounded : goal.returns-clause-bounded
returns-clause-bounded c = carried_within

pub returns-clause-there : goal.returns-clause-there
returns-clause-there c = λ walls tank stocks inflow seconds vessel has flow. carried_ordered walls tank vessel stocks
    inflow seconds has flow
