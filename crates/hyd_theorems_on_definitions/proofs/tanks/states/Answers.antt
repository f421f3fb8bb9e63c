use Rattle.hyd_theorems_on_definitions.proofs.StocksInIntervals.{state_holds, state_nests}
use Rattle.hyd_theorems_on_definitions.proofs.tanks.states.Goals as goal

pub returns-clause-holds : goal.returns-clause-holds
returns-clause-holds c = state_holds

pub returns-clause-nests : goal.returns-clause-nests
returns-clause-nests c = state_nests
