use Rattle.std.proofs.Common.{refl}
use Rattle.hyd_cases_of_open_ends.proofs.goals.Goals as goal

pub returns-clause-inside : goal.returns-clause-inside
returns-clause-inside c = λ diameter. refl

pub returns-clause-full : goal.returns-clause-full
returns-clause-full c = λ diameter. refl

pub returns-clause-from_full : goal.returns-clause-from_full
returns-clause-from_full c = λ diameter. refl

pub returns-clause-empty : goal.returns-clause-empty
returns-clause-empty c = λ diameter. refl

pub returns-clause-whole : goal.returns-clause-whole
returns-clause-whole c = λ diameter. refl

pub returns-clause-cylinder : goal.returns-clause-cylinder
returns-clause-cylinder c = λ diameter. refl
