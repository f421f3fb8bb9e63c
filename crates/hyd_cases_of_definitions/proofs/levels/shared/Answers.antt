use Rattle.std.proofs.Common.{refl}
use Rattle.hyd_cases_of_definitions.proofs.levels.shared.Goals as goal

pub returns : goal.returns
returns c = λ tank minimum maximum. rw (maximum, minimum) refl
