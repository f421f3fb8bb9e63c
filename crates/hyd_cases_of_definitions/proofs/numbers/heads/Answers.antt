use Rattle.std.proofs.Common.{refl}
use Rattle.hyd_cases_of_definitions.proofs.numbers.heads.Goals as goal

pub returns-clause-feet : goal.returns-clause-feet
returns-clause-feet c = refl

pub returns-clause-metres : goal.returns-clause-metres
returns-clause-metres c = refl
