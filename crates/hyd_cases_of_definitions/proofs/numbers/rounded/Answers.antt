use Rattle.std.proofs.Common.{refl}
use Rattle.hyd_cases_of_definitions.proofs.numbers.rounded.Goals as goal

pub returns-clause-down : goal.returns-clause-down
returns-clause-down c = refl

pub returns-clause-up : goal.returns-clause-up
returns-clause-up c = refl
