use Rattle.hyd_theorems_on_definitions.proofs.StocksInIntervals.{next_lies, next_inside, next_within, next_has}
use Rattle.hyd_theorems_on_definitions.proofs.StocksInIntervals.{volumes_within}
use Rattle.hyd_theorems_on_definitions.proofs.tanks.next_stock.Goals as goal

pub returns-clause-holds : goal.returns-clause-holds
returns-clause-holds c = next_lies

pub returns-clause-nests : goal.returns-clause-nests
returns-clause-nests c = next_inside

pub returns-clause-bounded : goal.returns-clause-bounded
returns-clause-bounded c = next_within

pub returns-clause-there : goal.returns-clause-there
returns-clause-there c = next_has

pub returns-clause-bounded_volumes : goal.returns-clause-bounded_volumes
returns-clause-bounded_volumes c = volumes_within
