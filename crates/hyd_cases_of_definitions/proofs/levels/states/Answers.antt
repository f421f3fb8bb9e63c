use Rattle.std.proofs.Common.{refl}
use Rattle.hyd_cases_of_definitions.proofs.levels.states.Goals as goal

pub returns-clause-ticks : goal.returns-clause-ticks
returns-clause-ticks c = λ tank minimum maximum. rw (maximum, minimum) refl

pub returns-clause-thirds : goal.returns-clause-thirds
returns-clause-thirds c = λ tank minimum maximum. rw (maximum, minimum) refl
