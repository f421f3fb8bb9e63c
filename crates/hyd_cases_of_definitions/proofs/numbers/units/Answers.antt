use Rattle.std.proofs.Common.{refl}
use Rattle.hyd_cases_of_definitions.proofs.numbers.units.Goals as goal

pub returns-clause-factors : goal.returns-clause-factors
returns-clause-factors c = refl

pub returns-clause-us : goal.returns-clause-us
returns-clause-us c = refl
