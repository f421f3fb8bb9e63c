use Rattle.std.proofs.Common.{refl}
use Rattle.hyd_cases_of_definitions.proofs.levels.ends.Goals as goal

pub returns-clause-lower : goal.returns-clause-lower
returns-clause-lower c = λ tank minimum maximum. rw (maximum, minimum) refl

pub returns-clause-upper : goal.returns-clause-upper
returns-clause-upper c = λ tank minimum maximum. rw (maximum, minimum) refl

pub returns-clause-bounds : goal.returns-clause-bounds
returns-clause-bounds c = λ tank minimum maximum. rw (maximum, minimum) refl
