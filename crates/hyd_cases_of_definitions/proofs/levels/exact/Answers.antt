use Rattle.std.proofs.Common.{refl}
use Rattle.hyd_cases_of_definitions.proofs.levels.exact.Goals as goal

pub returns-clause-filling : goal.returns-clause-filling
returns-clause-filling c = refl

pub returns-clause-draining : goal.returns-clause-draining
returns-clause-draining c = refl
