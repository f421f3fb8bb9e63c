use Rattle.std.proofs.Common.{refl}
use Rattle.hyd_cases_of_definitions.proofs.pressures_and_valve_states.driven.Goals as goal

pub returns-clause-by_pressure : goal.returns-clause-by_pressure
returns-clause-by_pressure c = λ project pda. rw pda refl

pub returns-clause-by_demand : goal.returns-clause-by_demand
returns-clause-by_demand c = λ project pda. rw pda refl
