use Rattle.std.proofs.Common.{refl}
use Rattle.hyd_cases_of_open_ends.proofs.curved.Goals as goal

pub returns-clause-filling : goal.returns-clause-filling
returns-clause-filling c = λ diameter. refl

pub returns-clause-draining : goal.returns-clause-draining
returns-clause-draining c = λ diameter. refl

pub returns-clause-full : goal.returns-clause-full
returns-clause-full c = λ diameter. refl

pub returns-clause-empty : goal.returns-clause-empty
returns-clause-empty c = λ diameter. refl
