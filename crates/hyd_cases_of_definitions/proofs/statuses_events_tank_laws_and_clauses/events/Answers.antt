use Rattle.std.proofs.Common.{refl}
use Rattle.hyd_cases_of_definitions.proofs.statuses_events_tank_laws_and_clauses.events.Goals as goal

pub returns-clause-full : goal.returns-clause-full
returns-clause-full c = λ tank minimum maximum. rw minimum refl

pub returns-clause-empty : goal.returns-clause-empty
returns-clause-empty c = λ tank minimum maximum. rw maximum refl

pub returns-clause-between : goal.returns-clause-between
returns-clause-between c = λ tank minimum maximum. rw (maximum, minimum) refl
