use Rattle.std.proofs.Common.{refl}
use Rattle.hyd_cases_of_definitions.proofs.statuses_events_tank_laws_and_clauses.measures.Goals as goal

pub returns-clause-junction_head : goal.returns-clause-junction_head
returns-clause-junction_head c = λ project j r. rw (j, r) refl

pub returns-clause-reservoir_head : goal.returns-clause-reservoir_head
returns-clause-reservoir_head c = λ project j r. rw (j, r) refl

pub returns-clause-tank_head : goal.returns-clause-tank_head
returns-clause-tank_head c = λ project tank j r is_tank bottom. rw (j, r, is_tank, bottom) refl

pub returns-clause-junction_pressure : goal.returns-clause-junction_pressure
returns-clause-junction_pressure c = λ project junction j r is_junction elevation. rw (j, r, is_junction, elevation)
    refl

pub returns-clause-tank_pressure : goal.returns-clause-tank_pressure
returns-clause-tank_pressure c = λ project j r. rw (j, r) refl

pub returns-clause-level : goal.returns-clause-level
returns-clause-level c = λ project. refl

pub returns-clause-flow : goal.returns-clause-flow
returns-clause-flow c = λ project. refl

pub returns-clause-setting : goal.returns-clause-setting
returns-clause-setting c = λ project. refl
