use Rattle.std.proofs.Common.{refl}
use Rattle.hyd_cases_of_definitions.proofs.levels.carried.Goals as goal

pub returns-clause-down : goal.returns-clause-down
returns-clause-down c = λ tank minimum maximum. rw (maximum, minimum) refl

pub returns-clause-up : goal.returns-clause-up
returns-clause-up c = λ tank minimum maximum. rw (maximum, minimum) refl
