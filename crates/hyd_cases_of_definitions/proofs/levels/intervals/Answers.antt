use Rattle.std.proofs.Common.{refl}
use Rattle.hyd_cases_of_definitions.proofs.levels.intervals.Goals as goal

pub returns-clause-carried_inside : goal.returns-clause-carried_inside
returns-clause-carried_inside c = λ tank minimum maximum. rw (maximum, minimum) refl

pub returns-clause-carried_emptying : goal.returns-clause-carried_emptying
returns-clause-carried_emptying c = λ tank minimum maximum. rw (maximum, minimum) refl

pub returns-clause-carried_at_maximum : goal.returns-clause-carried_at_maximum
returns-clause-carried_at_maximum c = λ tank minimum maximum. rw (maximum, minimum) refl

pub returns-clause-next_inside : goal.returns-clause-next_inside
returns-clause-next_inside c = λ tank minimum maximum. rw (maximum, minimum) refl

pub returns-clause-next_emptying : goal.returns-clause-next_emptying
returns-clause-next_emptying c = λ tank minimum maximum. rw (maximum, minimum) refl

pub returns-clause-next_at_maximum : goal.returns-clause-next_at_maximum
returns-clause-next_at_maximum c = λ tank minimum maximum. rw (maximum, minimum) refl
